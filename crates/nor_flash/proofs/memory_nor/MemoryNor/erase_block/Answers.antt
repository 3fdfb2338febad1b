use Rattle.std.proofs.Common.{ap, arith}
use Rattle.nor_flash.specs.declared.step.Step.TheVariants.{Erased}
use Rattle.nor_flash.specs.MemoryNor.{NorState}
use Rattle.nor_flash.proofs.NorSteps.{device_after}
use Rattle.nor_flash.proofs.memory_nor.MemoryNor.erase_block.Goals as goal

pub invariant_of-self-in-Ok : goal.invariant_of-self-in-Ok
invariant_of-self-in-Ok c =
    device_after c.self.inside.blocks c.self.inside.steps.items c.note_erase.new.steps.items (Erased c.args.block) c.in-Ok.ensures.ok c.self.inside.bytes.items c.self.invariant
    (omega (arith, c.requires, ap (λ (d : NorState). d.blocks) c.self.view_is)) c.self.inside.bytes.len c.deref_mut.result.now c.set_block.new.device c.self.inside.bytes.ok.0 c.deref_mut.ensures.value c.set_block.auto.device c.set_block.ensures
