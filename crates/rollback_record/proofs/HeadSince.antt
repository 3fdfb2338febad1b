-- A procedure leaves the head as it stood: each image since is sound, and goes on from what stood before.
use Rattle.std.proofs.Common.{◌≡◌, inl, inr, ℕ, ◌+◌, List, length, Option, Some, sym, subst, ◌∙◌, arith}
use Rattle.std.specs.List.{slice_range}
use Rattle.suit_edge.specs.Flash.{Flash, Passes, ImageOn, IsFlash, Keeps, Now}
use Rattle.suit_edge.specs.FlashLaws.{weakens}
use Rattle.suit_edge.specs.Ranges.{SameOn}
use Rattle.suit_edge.specs.RangeLaws.{same_range}
use Rattle.flash_layout.specs.declared.frame.Frame.{Frame}
use Rattle.flash_layout.specs.declared.slot.Record.{Record}
use Rattle.flash_layout.specs.Configs.{Configured}
use Rattle.flash_layout.specs.FirstFrame.{has_room}
use Rattle.flash_layout.specs.FrameFacts.{facts}
use Rattle.flash_layout.specs.Frames.{IsFrame, head_of, head_size}
use Rattle.flash_layout.specs.Roots.{frame_told}
use Rattle.flash_layout.specs.ToldFrames.{HasSameHead, same_config}
use Rattle.rollback_record.specs.Committing.{InHead}
use Rattle.rollback_record.specs.HeadRecord.{RecordOf}
use Rattle.rollback_record.proofs.SettledLaws.{head_is_firm}
use Rattle.rollback_record.specs.SoundFlash.{Follows, FollowsBlank, FollowsOn, GoesOn, Settled, Sound}
use Rattle.rollback_record.specs.SoundLaws.{SoundLaws}

one_frame : (a b : Frame) → ◌≡◌ {A = Option Frame} (Some a) (Some b) → a ≡ b
one_frame a b e = cc

-- the head of an image with the same bytes there
module _ (size : ℕ) (frame : Frame) (is : IsFrame size frame) (a c : List ℕ) (fits : length a ≡ size) (told : frame_told a ≡ Some frame) (same : SameOn (InHead frame) a c) where
  front_same : slice_range c 0 49152 ≡ slice_range a 0 49152
  front_same = same_range c a 0 49152 same.size (omega (arith, same.size, fits, has_room size frame is)) (λ i low high. same.same i (inl (omega arith, omega (arith, high))))

  own_same : head_of frame c ≡ head_of frame a
  own_same =
      same_range c a frame.base (frame.base + head_size frame) same.size (omega (arith, same.size, fits, (facts size frame is).inside))
      (λ i low high. same.same i (inr (low, high)))

  pub same_head : HasSameHead a c
  same_head = record {
    long = same.size;
    front = front_same;
    head = λ other is_told. subst (λ (f : Frame). head_of f c ≡ head_of f a) (one_frame frame other (sym told ∙ is_told)) own_same;
  }

-- an image that goes on to one goes on to each other with its head
module _ (a b c : List ℕ) (head : HasSameHead b c) where
  record_there : (on : GoesOn a b) (r : Record) → RecordOf on.now (head_of on.now b) (Some r) → RecordOf on.now (head_of on.now c) (Some r)
  record_there on r is = subst (λ (h : List ℕ). RecordOf on.now h (Some r)) (sym (head.head on.now on.is.told)) is

  on_there : GoesOn a b → GoesOn a c
  on_there on = record {
    layout = on.layout;
    key = on.key;
    before = on.before;
    now = on.now;
    was = on.was;
    is = same_config b c head (Configured on.layout on.key on.now) on.is;
    later = λ r is. let found = on.later r is in (found.0, record_there on found.0 found.1, found.2);
  }

  pub follows_there : Follows a b → Follows a c
  follows_there (FollowsBlank is) = FollowsBlank is
  follows_there (FollowsOn on) = FollowsOn (on_there on)

-- an image of a settled flash now goes on from what it reads
pub follows_now : (laws : SoundLaws) (a : Flash) → Settled a → (image : List ℕ) → Now a image → Follows a.reads image
follows_now laws a settled image now = follows_there a.reads a.reads image (settled.sure image now).head (laws.itself a.reads settled.sound)

module _ (laws : SoundLaws) (a b : Flash) (size : ℕ) (law : IsFlash a size) (frame : Frame) (is : IsFrame size frame) (told : frame_told a.reads ≡ Some frame) (settled : Settled a)
    (kept : Keeps (InHead frame) a b) where
  as_read : (image : List ℕ) → ImageOn (InHead frame) a image → SameOn (InHead frame) a.reads image
  as_read image on =
      let sure = head_is_firm a frame told settled on.from on.was in
      record { size = on.same.size ∙ sure.size; same = λ i k. on.same.same i k ∙ sure.same i k }

  head_as_read : (image : List ℕ) → ImageOn (InHead frame) a image → HasSameHead a.reads image
  head_as_read image on = same_head size frame is a.reads image law.fits told (as_read image on)

  pub sound_since : Passes a b Sound
  sound_since =
      weakens a b (ImageOn (InHead frame) a) Sound
      (λ image on. laws.same a.reads image (head_as_read image on) settled.sound) kept.images

  pub follows_since : Passes a b (Follows a.reads)
  follows_since =
      weakens a b (ImageOn (InHead frame) a) (Follows a.reads)
      (λ image on. follows_there a.reads a.reads image (head_as_read image on) (laws.itself a.reads settled.sound)) kept.images
