use Rattle.std.proofs.Common.{◌≡◌, ℕ, ◌+◌, ◌%◌, ◌==◌, if◌then◌else◌, get_or, length, sym, ◌∙◌, ap, arith}
use Rattle.std.proofs.lemmas.List.{ext_get_or}
use Rattle.nor_flash.specs.MemoryNor.{spoiled}
use Rattle.nor_flash.specs.MemoryNorLaws.{length-spoiled}
use Rattle.nor_flash.proofs.Filling.{get_or-spoiled}
use Rattle.nor_flash.proofs.memory_nor.spoil.Goals as goal

pub returns : goal.returns
returns c =
    let size : length c.loop-i.room ≡ length c.args.room.now = c.loop-i.auto.room in
    ext_get_or 0 c.loop-i.room (spoiled c.args.room.now) (omega (arith, size, length-spoiled 0 c.args.room.now))
    (λ k lt. let at : 0 + k ≡ k = omega arith in
    c.loop-i.invariant.spoiled k (omega (arith, size, lt, c.loop-i-test.false))
    ∙ sym (get_or-spoiled 0 c.args.room.now k (omega (arith, size, lt)) ∙ ap (λ (j : ℕ). if j % 2 == 0 then 85 else get_or c.args.room.now k 0) at))
