use Rattle.std.proofs.Common.{◌∙◌, subst, arith}
use Rattle.suit_edge.specs.Flash.{Grows, IsSame}
use Rattle.suit_edge.specs.MemoryDisk.{DiskState, memory_flash, flash_of}
use Rattle.suit_edge.proofs.Moments.{is_moment-sync}
use Rattle.suit_edge.proofs.MemoryImages.{grows_step, same_sync, settled_sync}
use Rattle.suit_edge.proofs.memory_disk.MemoryDiskDisk.sync.Goals as goal

pub invariant_of-self-in-Ok : goal.invariant_of-self-in-Ok
invariant_of-self-in-Ok c =
    is_moment-sync _ _ _ _ _ _ c.self.invariant _ _ c.in-Ok.ensures.ok (c.copy_from_slice.ensures.items ∙ c.deref.ensures.value) (omega (arith, c.len-self-inside.ensures, c.note_sync.new.steps.ok))

pub returns-in-Ok-clause-settled : goal.returns-in-Ok-clause-settled
returns-in-Ok-clause-settled c told = settled_sync c.self.inside.first.items c.self.inside.steps.items _ c.in-Ok.ensures.ok

pub returns-in-Ok-clause-same : goal.returns-in-Ok-clause-same
returns-in-Ok-clause-same c told =
    subst (λ (s : DiskState). IsSame (memory_flash s) (flash_of c.self.inside.first.items c.note_sync.new.steps.items)) c.self.view_is (same_sync _ _ _ c.in-Ok.ensures.ok)

pub returns-in-Ok-clause-grows : goal.returns-in-Ok-clause-grows
returns-in-Ok-clause-grows c told =
    subst (λ (s : DiskState). Grows (memory_flash s) (flash_of c.self.inside.first.items c.note_sync.new.steps.items)) c.self.view_is (grows_step _ _ _ _ c.in-Ok.ensures.ok)
