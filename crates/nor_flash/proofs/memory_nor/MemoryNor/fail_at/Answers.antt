use Rattle.std.proofs.Common.{ap, arith}
use Rattle.nor_flash.specs.declared.step.Step.TheVariants.{Spoiled}
use Rattle.nor_flash.specs.MemoryNor.{NorState}
use Rattle.nor_flash.proofs.NorSteps.{device_after}
use Rattle.nor_flash.proofs.memory_nor.MemoryNor.fail_at.Goals as goal

pub invariant_of-self : goal.invariant_of-self
invariant_of-self c =
    device_after c.self.inside.blocks c.self.inside.steps.items c.note_spoiled.new.steps.items (Spoiled (record { place = c.args.place; size = c.args.size })) c.in-Ok.ensures.ok c.self.inside.bytes.items c.self.invariant
    (omega (arith, c.requires, ap (λ (d : NorState). d.blocks) c.self.view_is)) c.self.inside.bytes.len c.deref_mut.result.now c.spoil_at.new.device c.self.inside.bytes.ok.0 c.deref_mut.ensures.value c.spoil_at.auto.device c.spoil_at.ensures
