use Rattle.std.proofs.Common.{◌≡◌, ◌*◌, replicate, rules}
use Rattle.nor_flash.proofs.NorSteps.{device_start}
use Rattle.nor_flash.proofs.memory_nor.MemoryNor.new.Goals as goal

pub invariant_of-result : goal.invariant_of-result
invariant_of-result c =
    let full : c.in_ok-vec.field-0.items ≡ replicate (4096 * c.args.blocks) 255 = search rules in
    device_start c.args.blocks c.new.result.items c.in_ok-vec.field-0.items c.requires.five c.new.ensures.items full
