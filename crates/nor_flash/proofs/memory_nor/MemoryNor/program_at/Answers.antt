use Rattle.std.proofs.Common.{◌∙◌, ap, arith}
use Rattle.nor_flash.specs.MemoryNor.{NorState, program_of}
use Rattle.nor_flash.proofs.NorSteps.{cleared_range, device_after}
use Rattle.nor_flash.proofs.memory_nor.MemoryNor.program_at.Goals as goal

pub invariant_of-self-in-Ok : goal.invariant_of-self-in-Ok
invariant_of-self-in-Ok c =
    device_after c.self.inside.blocks c.self.inside.steps.items c.note_program.new.steps.items (program_of c.args.place c.args.bytes.now) c.in-Ok.ensures.ok c.self.inside.bytes.items c.self.invariant
    (omega (arith, c.requires, ap (λ (d : NorState). d.blocks) c.self.view_is)) c.self.inside.bytes.len c.deref_mut.result.now c.clear_at.new.device c.self.inside.bytes.ok.0 c.deref_mut.ensures.value c.clear_at.auto.device (c.clear_at.ensures ∙ cleared_range c.deref_mut.result.now c.args.place c.args.bytes.now)
