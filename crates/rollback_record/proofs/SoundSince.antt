-- Each image since a commit began is sound, and goes on from what stood before it.
use Rattle.std.proofs.Common.{◌<◌, ℕ, List, Option, Some, None, IfSome, sym, ◌∙◌, subst, arith}
use Rattle.suit_edge.specs.Flash.{Flash, Passes, ImageOn, IsFirmOn, IsFlash}
use Rattle.suit_edge.specs.FlashLaws.{weakens}
use Rattle.suit_edge.specs.Ranges.{Outside}
use Rattle.flash_layout.specs.declared.frame.Frame.{Frame}
use Rattle.flash_layout.specs.declared.slot.Record.{Record}
use Rattle.flash_layout.specs.Frames.{IsFrame, head_of, record_place}
use Rattle.flash_layout.specs.ToldFrames.{IsTold}
use Rattle.rollback_record.specs.HeadRecord.{RecordOf}
use Rattle.rollback_record.specs.RecordPage.{record_length}
use Rattle.rollback_record.specs.Committing.{HasHeldOrNew, InHead, IsSpare, KeepsBesideSpare}
use Rattle.rollback_record.proofs.SettledLaws.{both}
use Rattle.rollback_record.specs.SoundFlash.{Follows, IsNoEarlier, Sound}
use Rattle.rollback_record.specs.SoundLaws.{HasFrame, HasNewInRange, IsCommitted, IsInstalledFor}
use Rattle.rollback_record.proofs.Sounds.{committed, follows}

spare_two : (frame : Frame) (head : List ℕ) (o : Option Record) (w : ℕ) → IsSpare frame head o w → w < 2
spare_two frame head None w spare = omega (arith, spare)
spare_two frame head (Some r) w spare = spare.0

module _ (size : ℕ) (frame : Frame) (is : IsFrame size frame) (a b : Flash) (told : IsTold size a.reads frame) (held : Option Record) (new : Record) (law : IsFlash a size) (was : RecordOf frame (head_of frame a.reads) held)
    (firm : IsFirmOn (InHead frame) a) (run : Passes a b (HasHeldOrNew frame held new)) (kept : KeepsBesideSpare frame held a b) where
  abbrev Beside : List ℕ → Type 0
  Beside image = ImageOn (Outside (record_place frame kept.which) (record_length frame)) a image

  frame_is : HasFrame frame a.reads
  frame_is = record { is = subst (λ (n : ℕ). IsFrame n frame) (sym law.fits) is; told = subst (λ (n : ℕ). IsTold n a.reads frame) (sym law.fits) told }

  committed_image : (image : List ℕ) → HasHeldOrNew frame held new image × Beside image → IsCommitted frame held new a.reads image
  committed_image image p =
      let sure = firm p.1.from p.1.was in record {
        frame_is = frame_is;
        was = was;
        which = kept.which;
        two = spare_two frame (head_of frame a.reads) held kept.which kept.spare;
        beside = record { size = p.1.same.size ∙ sure.size; same = λ i k. p.1.same.same i k.1 ∙ sure.same i k.0 };
        record_is = p.0;
      }

  pub sound_by : HasNewInRange frame a.reads new → IsInstalledFor a.reads new → Sound a.reads → Passes a b Sound
  sound_by fields installed sound =
      weakens a b (λ image. HasHeldOrNew frame held new image × Beside image) Sound (λ image p. committed frame held new a.reads image (committed_image image p) fields installed sound)
      (both a b (HasHeldOrNew frame held new) Beside run kept.keeps.images)

  pub follows_by : IfSome held (λ r. IsNoEarlier r new) → Sound a.reads → Passes a b (Follows a.reads)
  follows_by sure sound =
      weakens a b (λ image. HasHeldOrNew frame held new image × Beside image) (Follows a.reads) (λ image p. follows frame held new a.reads image (committed_image image p) sure sound)
      (both a b (HasHeldOrNew frame held new) Beside run kept.keeps.images)
