use Rattle.std.proofs.Common.{◌≤◌, ◌+◌, length, ◌∙◌, ap, subst, arith}
use Rattle.suit_edge.specs.Flash.{Grows, Keeps}
use Rattle.suit_edge.specs.Ranges.{Outside, written}
use Rattle.suit_edge.specs.Moment.{moment_of}
use Rattle.suit_edge.specs.MemoryDisk.{DiskState, memory_flash, flash_of}
use Rattle.suit_edge.proofs.Moments.{is_moment-write}
use Rattle.suit_edge.proofs.MemoryImages.{grows_step, keeps_write, reads_write}
use Rattle.suit_edge.proofs.memory_disk.MemoryDiskDisk.write_at.Goals as goal

pub put-requires : goal.put-requires
put-requires c = omega (arith, c.self.invariant.size, ap (λ (s : DiskState). length s.first) c.self.view_is, c.self.inside.bytes.ok)

pub invariant_of-self-in-Ok : goal.invariant_of-self-in-Ok
invariant_of-self-in-Ok c =
    let fits : c.args.place + length c.args.bytes.now ≤ length c.self.inside.first.items = omega (arith, ap (λ (s : DiskState). length s.first) c.self.view_is) in
    is_moment-write _ _ _ _ _ _ c.self.invariant c.args.place c.args.bytes.now _ fits c.in-Ok.ensures.ok c.put.ensures

pub returns-in-Ok-clause-written : goal.returns-in-Ok-clause-written
returns-in-Ok-clause-written c told =
    let fits : c.args.place + length c.args.bytes.now ≤ length c.self.inside.first.items = omega (arith, ap (λ (s : DiskState). length s.first) c.self.view_is) in
    reads_write _ _ _ c.args.place c.args.bytes.now fits c.in-Ok.ensures.ok ∙ ap (λ (s : DiskState). written (moment_of s.first s.steps).reads c.args.place c.args.bytes.now) c.self.view_is

pub returns-in-Ok-clause-keeps : goal.returns-in-Ok-clause-keeps
returns-in-Ok-clause-keeps c told =
    let fits : c.args.place + length c.args.bytes.now ≤ length c.self.inside.first.items = omega (arith, ap (λ (s : DiskState). length s.first) c.self.view_is) in
    subst (λ (s : DiskState). Keeps (Outside c.args.place (length c.args.bytes.now)) (memory_flash s) (flash_of c.self.inside.first.items c.note_write.new.steps.items)) c.self.view_is (keeps_write _ _ _ c.args.place c.args.bytes.now fits c.in-Ok.ensures.ok)

pub returns-in-Ok-clause-grows : goal.returns-in-Ok-clause-grows
returns-in-Ok-clause-grows c told =
    subst (λ (s : DiskState). Grows (memory_flash s) (flash_of c.self.inside.first.items c.note_write.new.steps.items)) c.self.view_is (grows_step _ _ _ _ c.in-Ok.ensures.ok)
