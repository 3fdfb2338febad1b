-- The images that a loss of power leaves of an update.
use Rattle.std.proofs.Common.{◌⊎◌, inl, inr, ℕ, List, Option}
use Rattle.suit_edge.specs.Flash.{Flash, IsFlash, IsSame, Now, Passes}
use Rattle.suit_edge.specs.FlashLaws.{each_now}
use Rattle.rollback_record.specs.SoundFlash.{HoldsSame, Settled}
use Rattle.update_proc.specs.declared.update_end.UpdateEnd.{UpdateEnd}
use Rattle.update_proc.specs.declared.update_end.UpdateEnd.TheVariants as ends
use Rattle.update_proc.specs.Moments.{IsNew, IsOld}
use Rattle.update_proc.specs.Updates.{KeepsUpdate}
use Rattle.suit_params.specs.declared.digest.Digest.{Digest}
use Rattle.flash_layout.specs.declared.slot.Record.{Record}
use Rattle.suit_cli.specs.Coming.{Answered, Booted, Ended, StaysOrKeeps, Updated}
use Rattle.suit_cli.specs.DrillLaws.{HasOldOrNew, IsLeftByUpdate}
use Rattle.suit_cli.specs.DrillRounds.{envelope_name}
use Rattle.suit_cli.specs.Surroundings.{Surroundings}
use Rattle.suit_cli.specs.Updating.{IsDone, KeepsFlash, Offer, new_of, placed_of}

module _ (uris : List (List ℕ × List ℕ)) (before after : Surroundings) (extent : ℕ) (law : IsFlash after.flash extent) (settled : Settled before.flash) (image : List ℕ) (now : Now after.flash image) where
  abbrev old : Flash
  old = before.flash

  abbrev new : Flash
  new = after.flash

  abbrev Stands : Type 0
  Stands = HoldsSame old.reads image ⊎ IsLeftByUpdate uris before after image

  -- nothing was begun
  of_same : IsSame old new → Stands
  of_same same = inl (settled.sure image (each_now old new extent (Now old) law same.images image now))

  -- it was
  module _ (end : UpdateEnd) (k : KeepsFlash envelope_name uris before after end) where
    abbrev o : Offer
    o = k.o

    abbrev held : Option Record
    held = k.offered.0

    abbrev digest : Digest
    digest = k.offered.1

    abbrev Kept : Type 0
    Kept =
        KeepsUpdate (placed_of o) (IsDone o uris before after held) held (new_of o.frame o.accepted held old.reads digest) old new end

    cut_off : HasOldOrNew o uris before after held digest image → Stands
    cut_off is_left = inr (record { o = o; config = k.config; read = k.read; is_accepted = k.is_accepted; offered = k.offered; is_left = is_left })

    of_old : (kept : Kept) → IsOld (placed_of o) kept.numbers held old.reads image → Stands
    of_old kept is_old = cut_off (record { numbers = kept.numbers; chosen = kept.chosen; made = kept.made; others = kept.others; stands = inl is_old })

    of_new : (kept : Kept) → IsNew o.frame o.layout (new_of o.frame o.accepted held old.reads digest kept.numbers) kept.made image → IsDone o uris before after held kept.made → Stands
    of_new kept is_new done =
        cut_off (record { numbers = kept.numbers; chosen = kept.chosen; made = kept.made; others = kept.others; stands = inr (is_new, done) })

    -- the old record stood at each moment, or the procedure is done
    of_either : (kept : Kept)
        → Passes old new (IsOld (placed_of o) kept.numbers held old.reads) ⊎ IsDone o uris before after held kept.made → Stands
    of_either kept (inl stays) = of_old kept (each_now old new extent _ law stays image now)
    of_either kept (inr done) = of_moment (each_now old new extent _ law kept.any_moment image now) where
      of_moment : IsOld (placed_of o) kept.numbers held old.reads image
          ⊎ IsNew o.frame o.layout (new_of o.frame o.accepted held old.reads digest kept.numbers) kept.made image → Stands
      of_moment (inl is_old) = of_old kept is_old
      of_moment (inr is_new) = of_new kept is_new done

  of_end : (end : UpdateEnd) → KeepsFlash envelope_name uris before after end → Stands
  of_end ends.FlashFault k = of_kept (k.kept k.offered.0 k.offered.1 k.offered.2 k.offered.3 k.offered.4) where
    of_kept : IsSame old new ⊎ Kept ends.FlashFault k → Stands
    of_kept (inl same) = of_same same
    of_kept (inr kept) = of_either ends.FlashFault k kept kept.whole
  of_end (ends.Installed r) k =
      let kept = k.kept k.offered.0 k.offered.1 k.offered.2 k.offered.3 k.offered.4 in
      of_either (ends.Installed r) k kept (inr kept.whole)
  of_end (ends.Condition place) k =
      let kept = k.kept k.offered.0 k.offered.1 k.offered.2 k.offered.3 k.offered.4 in
      of_either (ends.Condition place) k kept (inl kept.whole)
  of_end (ends.Stopped place cause) k =
      let kept = k.kept k.offered.0 k.offered.1 k.offered.2 k.offered.3 k.offered.4 in
      of_either (ends.Stopped place cause) k kept (inl kept.whole)
  of_end (ends.Lower recorded offered) k = of_same (k.kept k.offered.0 k.offered.1 k.offered.2 k.offered.3 k.offered.4)
  of_end (ends.OtherDigest recorded offered) k = of_same (k.kept k.offered.0 k.offered.1 k.offered.2 k.offered.3 k.offered.4)
  of_end ends.Worn k = of_same (k.kept k.offered.0 k.offered.1 k.offered.2 k.offered.3 k.offered.4)
  of_end ends.NoMemory k = of_same (k.kept k.offered.0 k.offered.1 k.offered.2 k.offered.3 k.offered.4)

  pub stands : (ended : Ended) → StaysOrKeeps envelope_name uris before after ended → Stands
  stands (Answered ending) kept = of_same kept
  stands (Booted end lines) kept = of_same kept
  stands (Updated end lines) kept = of_end end kept
