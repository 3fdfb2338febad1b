-- Laws of sound and settled flashes over the moments of a flash, which no clause can say.
use Rattle.std.proofs.Common.{◌≡◌, inl, inr, ⊎_elim, ℕ, ◌+◌, ◌-◌, List, get_or, Some, None, refl, sym, ◌∙◌, ap, subst, arith}
use Rattle.std.proofs.lemmas.List.Edits.{get_or-between}
use Rattle.suit_edge.specs.Flash.{Flash, Now, Passes, IsFirmOn, IsFlash, IsSame, IsSettled}
use Rattle.suit_edge.specs.FlashLaws.{each_now}
use Rattle.suit_edge.specs.Ranges.{Within}
use Rattle.flash_layout.specs.declared.frame.Frame.{Frame}
use Rattle.flash_layout.specs.Configs.{Blank, Configured}
use Rattle.flash_layout.specs.Frames.{head_of, head_size}
use Rattle.flash_layout.specs.Roots.{frame_told}
use Rattle.flash_layout.specs.ToldFrames.{HasSameHead, front_there, same_config}
use Rattle.rollback_record.specs.Committing.{InHead}
use Rattle.rollback_record.specs.HeadRecord.{RecordOf}
use Rattle.rollback_record.specs.SoundFlash.{HoldsSame, IsInstalled, Settled, Sound, SoundBlank, SoundEmpty, SoundInstalled, recorded_bank}

-- each image has both
pub both : (a b : Flash) (P Q : List ℕ → Type 0) → Passes a b P → Passes a b Q
    → Passes a b (λ image. P image × Q image)
both a b P Q first second = record {
  later = first.later;
  each = λ image may. (first.each image may, second.each image may);
  before = λ t image le may. ⊎_elim (λ h. inl h) (λ p. ⊎_elim (λ h. inl h) (λ q. inr (p, q)) (second.before t image le may)) (first.before t image le may);
}

same_start : (image : List ℕ) → HoldsSame image image
same_start image = record {
  head = record { long = refl; front = refl; head = λ frame told. refl };
  area = λ frame told. refl;
  slots = λ layout key frame config k d inside. refl;
}

-- where nothing is pending, a sound flash is settled
pub settles : (f : Flash) → IsSettled f → Sound f.reads → Settled f
settles f none sound = record {
  sound = sound;
  sure = λ image now. subst (λ (l : List ℕ). HoldsSame f.reads l) (sym (none image now)) (same_start f.reads);
}

-- after reads it is still settled
pub settled_still : (a b : Flash) (size : ℕ) → IsFlash b size → IsSame a b → Settled a → Settled b
settled_still a b size law same settled = record {
  sound = subst Sound (sym same.reads) settled.sound;
  sure = λ image now. subst (λ (l : List ℕ). HoldsSame l image) (sym same.reads) (settled.sure image (each_now a b size (Now a) law same.images image now));
}

-- nothing but the head decides
pub same_sound : (image other : List ℕ) → HasSameHead image other → Sound image → Sound other
same_sound image other same (SoundBlank is) = SoundBlank (same_config image other same Blank is)
same_sound image other same (SoundEmpty layout key frame is none) =
    SoundEmpty layout key frame (same_config image other same (Configured layout key frame) is)
    (subst (λ (h : List ℕ). RecordOf frame h None) (sym (same.head frame is.told)) none)
same_sound image other same (SoundInstalled layout key frame r is held installed) =
    let there = sym (same.head frame is.told) in
    SoundInstalled layout key frame r (same_config image other same (Configured layout key frame) is)
    (subst (λ (h : List ℕ). RecordOf frame h (Some r)) there held)
    (subst (λ (h : List ℕ). IsInstalled layout key (recorded_bank frame h r) r) there installed)

-- each image that a power loss may leave of it is sound
pub each_sound : (f : Flash) → Settled f → (image : List ℕ) → Now f image → Sound image
each_sound f settled image now = same_sound f.reads image (settled.sure image now).head settled.sound

-- a byte of the head, by its place in the flash
head_byte : (frame : Frame) (image : List ℕ) (i : ℕ) → Within frame.base (head_size frame) i → get_or (head_of frame image) (i - frame.base) 0 ≡ get_or image i 0
head_byte frame image i inside =
    let low = inside.0 in
    let high = inside.1 in
    let at : frame.base + (i - frame.base) ≡ i = omega (arith, low) in
    get_or-between image frame.base (frame.base + head_size frame) (i - frame.base) 0 (omega (arith, low, high)) ∙ ap (λ (j : ℕ). get_or image j 0) at

-- and has its head, as a commit needs
pub head_is_firm : (f : Flash) (frame : Frame) → frame_told f.reads ≡ Some frame → Settled f → IsFirmOn (InHead frame) f
head_is_firm f frame told settled image now =
    let same = (settled.sure image now).head in
    record {
      size = same.long;
      same = λ i k. ⊎_elim
          (λ front. front_there f.reads image same i (omega (arith, front.1)))
          (λ own. sym (head_byte frame image i own) ∙ ap (λ (l : List ℕ). get_or l (i - frame.base) 0) (same.head frame told) ∙ head_byte frame f.reads i own)
          k;
    }
