-- When a command leaves the flash settled.
use Rattle.std.proofs.Common.{◌≡◌, ◌⊎◌, ⊎_elim, ℕ, List, sym, subst}
use Rattle.suit_edge.specs.Faults.{Faulted}
use Rattle.suit_edge.specs.Flash.{Flash, IsFlash, IsSame, IsSettled, Now, Passes}
use Rattle.suit_edge.specs.FlashLaws.{each_read}
use Rattle.path_model.specs.declared.cause.Cause.TheVariants as causes
use Rattle.flash_layout.specs.declared.formatting.Formatted.{Formatted}
use Rattle.flash_layout.specs.declared.formatting.Formatted.TheVariants as formatted
use Rattle.flash_layout.specs.declared.frame.Frame.{Frame}
use Rattle.flash_layout.specs.declared.key.Key.{Key}
use Rattle.flash_layout.specs.declared.layout.Entry.{Entry}
use Rattle.flash_layout.specs.Formats.{FormatCounts, IfFormatted, IfNotBlank, IsFormatted}
use Rattle.rollback_record.proofs.SettledLaws.{settled_still, settles}
use Rattle.rollback_record.specs.SoundFlash.{Settled, Sound}
use Rattle.rollback_record.specs.SoundLaws.{SoundLaws}
use Rattle.step_machine.specs.PlanRuns.{Counts}
use Rattle.invoke_proc.specs.declared.boot_end.BootEnd.{BootEnd}
use Rattle.invoke_proc.specs.declared.boot_end.BootEnd.TheVariants as ends
use Rattle.invoke_proc.specs.Booting.{IfUnfaulted}
use Rattle.invoke_proc.specs.Counting.{BootCounts}
use Rattle.update_proc.specs.declared.update_end.UpdateEnd.{UpdateEnd}
use Rattle.update_proc.specs.declared.update_end.UpdateEnd.TheVariants as updates
use Rattle.update_proc.specs.Ends.{UpdateCounts}
use Rattle.update_proc.specs.Ends as updating
use Rattle.suit_cli.specs.Settling.{StaysInOrder, StaysSettled}
use Rattle.suit_cli.proofs.Sounding.{any_later, any_of, any_start, settled_later, stays_later, stays_now, stays_start}

-- looks alone
pub looked : (a b : Flash) (size before now : ℕ) → IsFlash b size → IsSame a b → StaysSettled a b before now
looked a b size before now law same settled never = settled_still a b size law same settled

-- behind looks that counted no fault
pub looked_then : (a b c : Flash) (size before now later : ℕ) → IsFlash b size → IsSame a b → now ≡ before → StaysSettled b c now later → StaysSettled a c before later
looked_then a b c size before now later law same counts next settled never =
    next (settled_still a b size law same settled) (λ faulted. never (subst (λ (n : ℕ). Faulted n later) counts faulted))

-- it was only looked at, or synced behind the last write
pub synced : (a b : Flash) (size before now : ℕ) → IsFlash b size → (Settled a → Passes a b Sound) → IsSame a b ⊎ IsSettled b → StaysSettled a b before now
synced a b size before now law sound end settled never =
    ⊎_elim (λ same. settled_still a b size law same settled) (λ none. settles b none (each_read a b size Sound law (sound settled))) end

-- a format by its answer
pub formats_settled : SoundLaws → (size : ℕ) (frame : Frame) (layout : List Entry) (key : Key) (Opened : Type 0) (answer : Formatted) (a b : Flash) (before now : ℕ) → IsFlash b size
    → FormatCounts answer before now → IfNotBlank answer Opened (IsSame a b) → IfFormatted answer (IsFormatted frame size layout key b.reads) → IfFormatted answer (IsSettled b)
    → StaysSettled a b before now
formats_settled laws size frame layout key Opened formatted.Done a b before now law counts opened is none settled never =
    settles b none (laws.formatted frame layout key b.reads (subst (λ (n : ℕ). IsFormatted frame n layout key b.reads) (sym law.fits) is))
formats_settled laws size frame layout key Opened formatted.NotBlank a b before now law counts opened is none settled never = settled_still a b size law opened.1 settled
formats_settled laws size frame layout key Opened formatted.FlashFault a b before now law counts opened is none settled never = absurd (never counts)

-- a boot by its answer
pub boots_settled : (end : BootEnd) (before now : Counts) (a b : Flash) → BootCounts end before now → (Settled a → IfUnfaulted end (Settled b))
    → StaysSettled a b before.disk now.disk
boots_settled (ends.Stopped place causes.FlashFault) before now a b counts is settled never = absurd (never counts.1)
boots_settled ends.FlashFault before now a b counts is settled never = absurd (never counts.1)
boots_settled _ before now a b counts is settled never = is settled

-- an update by its answer
pub updates_settled : (end : UpdateEnd) (before now : Counts) (a b : Flash) (size : ℕ) → IsFlash b size → UpdateCounts end before now
    → (Settled a → Passes a b Sound) → updating.IfUnfaulted end (IsSame a b ⊎ IsSettled b) → StaysSettled a b before.disk now.disk
updates_settled (updates.Stopped place causes.FlashFault) before now a b size law counts sound is = λ settled never. absurd (never counts.1)
updates_settled updates.FlashFault before now a b size law counts sound is = λ settled never. absurd (never counts.1)
updates_settled _ before now a b size law counts sound is = synced a b size before.disk now.disk law sound is

-- ---- at each moment and at the end

module _ (laws : SoundLaws) (a : Flash) where
  pub order_start : (n : ℕ) → StaysInOrder a a n n
  order_start n = record { any_moment = any_start a; sound = λ settled. stays_start laws a settled; settled = λ settled never. settled }

  module _ (b : Flash) (size : ℕ) (law : IsFlash b size) (same : IsSame a b) where
    pub order_looked : (before now : ℕ) → StaysInOrder a b before now
    order_looked before now = record {
      any_moment = any_of a b (Now a) same.images;
      sound = λ settled. stays_now laws a settled b same.images;
      settled = looked a b size before now law same;
    }

    -- behind looks that counted no fault
    pub order_then : (c : Flash) (before now later : ℕ) → now ≡ before → StaysInOrder b c now later → StaysInOrder a c before later
    order_then c before now later counts next = record {
      any_moment = any_later a b c same next.any_moment;
      sound = λ settled. stays_later laws a settled b c same (next.sound (settled_later a b size law same settled));
      settled = looked_then a b c size before now later law same counts next.settled;
    }
