use Rattle.std.proofs.Common.{◌≡◌, length, sym, ◌∙◌, arith}
use Rattle.std.proofs.lemmas.List.{ext_get_or}
use Rattle.nor_flash.specs.Blocks.{ands}
use Rattle.nor_flash.specs.MemoryNorLaws.{length-ands}
use Rattle.nor_flash.proofs.Filling.{get_or-ands}
use Rattle.nor_flash.proofs.memory_nor.clear.Goals as goal

pub returns : goal.returns
returns c =
    let size : length c.loop-i.room ≡ length c.args.room.now = c.loop-i.auto.room in
    ext_get_or 0 c.loop-i.room (ands c.args.room.now c.args.bytes.now) (omega (arith, size, length-ands c.args.room.now c.args.bytes.now c.requires))
    (λ k lt. c.loop-i.invariant.cleared k (omega (arith, size, lt, c.loop-i-test.false)) ∙ sym (get_or-ands c.args.room.now c.args.bytes.now k c.requires (omega (arith, size, lt))))
