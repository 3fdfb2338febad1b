-- The flash while an envelope is written to a bank and recorded: it is sound, and goes on from what stood before.
use Rattle.std.proofs.Common.{◌≡◌, inl, inr, ◌<◌, ◌≤◌, ℕ, zero, suc, ◌+◌, ◌-◌, Bool, true, false, if◌then◌else◌, List, length, get_or, Option, Some, None, IfSome, sym, ◌∙◌, ap, subst, arith}
use Rattle.suit_edge.specs.Flash.{Flash, ImageOn, IsFirmOn, IsFlash, IsSettled, Keeps, Passes}
use Rattle.suit_edge.specs.FlashLaws.{joined, settled_firm, weakens}
use Rattle.suit_params.specs.declared.digest.Digest.{Digest}
use Rattle.suit_edge.specs.Ranges.{Outside, SameOn, Within}
use Rattle.suit_edge.specs.RangeLaws.{outside_within, same_range}
use Rattle.flash_layout.specs.declared.frame.Frame.{Frame}
use Rattle.flash_layout.specs.declared.key.Key.{Key}
use Rattle.flash_layout.specs.declared.layout.Entry.{Entry}
use Rattle.flash_layout.specs.declared.slot.Record.{Record}
use Rattle.flash_layout.specs.ConfigPage.{IsConfigPage}
use Rattle.flash_layout.specs.Configs.{ConfigOf, Configured}
use Rattle.flash_layout.specs.FirstFrame.{has_room}
use Rattle.flash_layout.specs.FrameFacts.{FrameFacts, bank_high, behind_pages, facts, page_there}
use Rattle.flash_layout.specs.Frames.{IsFrame, bank_from, bank_place, bank_size, config_page_of, head_of, head_size, page_bytes, record_from, record_place}
use Rattle.flash_layout.specs.Roots.{frame_by, frame_told}
use Rattle.flash_layout.specs.ToldFrames.{by_told, told_by}
use Rattle.rollback_record.specs.declared.spare.Spare.{Spare}
use Rattle.rollback_record.specs.Committing.{HasHeldOrNew, HasSpare, InHead, IsNext, IsSpare, KeepsBesideSpare}
use Rattle.rollback_record.specs.HeadRecord.{IsLoadable, RecordOf}
use Rattle.rollback_record.specs.RecordPage.{IsActiveSlot, IsInRange, record_length}
use Rattle.rollback_record.proofs.SettledLaws.{both}
use Rattle.rollback_record.specs.SoundFlash.{Follows, IsInstalled, IsNoEarlier, Sound, recorded_bank}
use Rattle.rollback_record.specs.SoundLaws.{HasFrame, IsCommitted, IsStillSound, SaysRecorded, SoundLaws, TellsFrame}
use Rattle.rollback_record.proofs.HeadPlaces.{tells_head, tells_outside}
use Rattle.rollback_record.proofs.StillSound as recorded
use Rattle.rollback_record.proofs.Widths.{most_few}
use Rattle.update_proc.specs.Banks.{BesideBank, bank_for, is_kept, other_bank}
use Rattle.update_proc.specs.Records.{new_record, next_generation}
use Rattle.update_proc.specs.Installing.{BesideHead, Filling, HasActiveSlots, IsFilled, IsInstalling, IsRecording, MayBeInstalled, Recording}

-- ---- places

module _ (size : ℕ) (frame : Frame) (is : FrameFacts size frame) where
  first_lowest : (b : ℕ) → b < 2 → bank_from frame 0 ≤ bank_from frame b
  first_lowest zero two = omega arith
  first_lowest (suc zero) two = omega (arith, is.first_bank, is.second_bank)
  first_lowest (suc (suc b)) two = absurd (omega (arith, two))

  -- one bank is no part of the other
  banks_apart : (b n m i : ℕ) → b < 2 → n ≤ bank_size frame → m ≤ bank_size frame → Within (bank_place frame b) n i → Outside (bank_place frame (1 - b)) m i
  banks_apart zero n m i two few fits there = inl (omega (arith, is.first_bank, is.second_bank, few, there.1))
  banks_apart (suc zero) n m i two few fits there = inr (omega (arith, is.first_bank, is.second_bank, fits, there.0))
  banks_apart (suc (suc b)) n m i two few fits there = absurd (omega (arith, two))

  other_two : (held : Option Record) → other_bank held < 2
  other_two None = omega arith
  other_two (Some r) = omega arith

  -- a bank ends with the second one at the latest
  bank_low : (b : ℕ) → b < 2 → bank_from frame b + bank_size frame ≤ record_from frame 0 + behind_pages frame
  bank_low zero two = omega (arith, is.first_bank)
  bank_low (suc zero) two = omega (arith, is.second_bank)
  bank_low (suc (suc b)) two = absurd (omega (arith, two))

  -- the bytes that tell the frame lie beside the banks
  tells_beside : (held : Option Record) (bytes : List ℕ) → length bytes ≤ bank_size frame → (i : ℕ) → TellsFrame i → BesideBank frame held bytes i
  tells_beside held bytes fits i tells =
      let b = other_bank held in
      let two = other_two held in
      tells_outside size frame is (bank_place frame b) (length bytes) (omega (arith, first_lowest b two)) (omega (arith, fits, bank_low b two)) i tells

  -- the bytes that say what is recorded lie beside the other bank
  says_beside : (held : Option Record) (bytes : List ℕ) → length bytes ≤ bank_size frame → IfSome held (IsLoadable frame) → (i : ℕ) → SaysRecorded frame held i → BesideBank frame held bytes i
  says_beside None bytes fits few i (inl tells) = tells_beside None bytes fits i tells
  says_beside None bytes fits few i (inr pages) = inl (omega (arith, pages.1))
  says_beside (Some r) bytes fits few i (inl tells) = tells_beside (Some r) bytes fits i tells
  says_beside (Some r) bytes fits few i (inr (inl pages)) = let two : 1 - r.bank < 2 = omega arith in inl (omega (arith, pages.1, first_lowest (1 - r.bank) two))
  says_beside (Some r) bytes fits few i (inr (inr bank)) = banks_apart r.bank r.length (length bytes) i few.bank few.size fits bank

  -- they lie in the head
  pages_head : (i : ℕ) → Within frame.base (bank_from frame 0) i → Within frame.base (head_size frame) i
  pages_head i pages = let two : 0 < 2 = omega arith in (pages.0, omega (arith, pages.1, bank_high size frame is 0 two))

  says_head : (held : Option Record) → IfSome held (IsLoadable frame) → (i : ℕ) → SaysRecorded frame held i → InHead frame i
  says_head None few i (inl tells) = tells_head size frame is i tells
  says_head None few i (inr pages) = inr (pages_head i pages)
  says_head (Some r) few i (inl tells) = tells_head size frame is i tells
  says_head (Some r) few i (inr (inl pages)) = inr (pages_head i pages)
  says_head (Some r) few i (inr (inr bank)) = inr (omega (arith, bank.0), omega (arith, bank.1, few.size, bank_high size frame is r.bank few.bank))

  -- places beside the head are beside the banks
  pub beside_banks : (held : Option Record) (bytes : List ℕ) → length bytes ≤ bank_size frame → (i : ℕ) → BesideHead frame i → BesideBank frame held bytes i
  beside_banks held bytes fits i out =
      let b = other_bank held in
      outside_within (bank_place frame b) (length bytes) frame.base (head_size frame) (omega arith) (omega (arith, fits, bank_high size frame is b (other_two held))) i out

  -- and beside the record pages
  pub beside_page : (which i : ℕ) → which < 2 → BesideHead frame i → Outside (record_place frame which) (record_length frame) i
  beside_page which i two out = outside_within (record_place frame which) (record_length frame) frame.base (head_size frame) (omega arith) (omega (arith, two, is.head, most_few frame)) i out

  -- the configuration page is beside the banks
  config_beside : (held : Option Record) (bytes : List ℕ) → (i : ℕ) → i < frame.base + page_bytes frame → BesideBank frame held bytes i
  config_beside held bytes i low = inl (omega (arith, low, is.page))

-- ---- lists that agree beside the bank

has_frame : (frame : Frame) (image : List ℕ) → IsFrame (length image) frame → frame_told image ≡ Some frame → HasFrame frame image
has_frame frame image is told = record { is = is; told = told_by (length image) image frame told }

frame_since : (frame : Frame) (a c : List ℕ) → length c ≡ length a → IsFrame (length a) frame → IsFrame (length c) frame
frame_since frame a c same is = subst (λ (n : ℕ). IsFrame n frame) (sym same) is

-- of what a flash reads
pub frame_read : (size : ℕ) (frame : Frame) (f : Flash) → IsFlash f size → IsFrame size frame → IsFrame (length f.reads) frame
frame_read size frame f law is = subst (λ (n : ℕ). IsFrame n frame) (sym law.fits) is

module _ (frame : Frame) (held : Option Record) (bytes a c : List ℕ) (is : IsFrame (length a) frame) (told : frame_told a ≡ Some frame) (few : IfSome held (IsLoadable frame))
    (fits : length bytes ≤ bank_size frame) (same : SameOn (BesideBank frame held bytes) a c) where
  -- the frame is told still
  pub told_same : frame_told c ≡ Some frame
  told_same =
      ap frame_by
      (same_range c a 45056 45066 same.size (omega (arith, same.size, has_room (length a) frame is))
      (λ i low high. same.same i (tells_beside (length a) frame (facts (length a) frame is) held bytes fits i (inr (low, omega (arith, high))))))
      ∙ told

  says_same : SameOn (SaysRecorded frame held) a c
  says_same = record { size = same.size; same = λ i says. same.same i (says_beside (length a) frame (facts (length a) frame is) held bytes fits few i says) }

  module _ (was : RecordOf frame (head_of frame a) held) where
    still : SoundLaws → Sound a → IsStillSound frame held a c
    still laws sound = laws.kept frame held a c (has_frame frame a is told) was says_same sound

    -- the record that was held stands still
    pub still_held : RecordOf frame (head_of frame c) held
    still_held = recorded.still_held frame held a c (has_frame frame a is told) was says_same

    -- and the page beside it is free still
    pub still_spare : (spare : Spare) → spare.which < 2 → HasSpare frame (head_of frame a) held spare → HasSpare frame (head_of frame c) held spare
    still_spare spare two has = recorded.still_spare frame held a c (has_frame frame a is told) was says_same spare two has

module _ (frame : Frame) (held : Option Record) (bytes a c : List ℕ) (is : IsFrame (length a) frame) (same : SameOn (BesideBank frame held bytes) a c) where
  here : FrameFacts (length a) frame
  here = facts (length a) frame is

  config_same : config_page_of frame (head_of frame c) ≡ config_page_of frame (head_of frame a)
  config_same =
      page_there (length a) frame here c
      ∙ same_range c a frame.base (frame.base + page_bytes frame) same.size (omega (arith, same.size, here.inside, here.page, here.head)) (λ i low high. same.same i (config_beside (length a) frame here held bytes i high))
      ∙ sym (page_there (length a) frame here a)

  -- the fields of a record that were in range are so still
  pub in_range : (new : Record) → new.bank < 2 → new.length ≤ bank_size frame → HasActiveSlots frame a new.active → IsInRange frame (config_page_of frame (head_of frame c)) new
  in_range new bank size active = record {
    bank = bank;
    size = size;
    active = λ i low. subst (λ (l : List ℕ). IsActiveSlot frame l i (get_or new.active i 0)) (sym config_same) (active i low);
  }

  -- the configuration was the same
  config_back : (layout : List Entry) (key : Key) → frame_told a ≡ Some frame → ConfigOf (length c) c (Configured layout key frame) → ConfigOf (length a) a (Configured layout key frame)
  config_back layout key told config = record {
    placed = is;
    told = told;
    whole = here.inside;
    typed = config.typed;
    page = subst (λ (n : ℕ). IsConfigPage frame n (config_page_of frame (head_of frame a)) layout key) same.size (subst (λ (l : List ℕ). IsConfigPage frame (length c) l layout key) config_same config.page);
  }

-- ---- the new record

module _ (laws : SoundLaws) (frame : Frame) (held : Option Record) (new : Record) (bytes a made : List ℕ) (is : IsFrame (length a) frame) (told : frame_told a ≡ Some frame) (few : IfSome held (IsLoadable frame)) (fits : length bytes ≤ bank_size frame)
    (was : RecordOf frame (head_of frame a) held) (sound : Sound a) (filled : IsFilled frame held new bytes a made) where
  made_still : IsStillSound frame held a made
  made_still = still frame held bytes a made is told few fits filled.beside was laws sound

  made_frame : HasFrame frame made
  made_frame = has_frame frame made (frame_since frame a made filled.beside.size is) (told_same frame held bytes a made is told few fits filled.beside)

  committing : (image : List ℕ) → IsRecording frame held new made image → IsCommitted frame held new made image
  committing image now = record {
    frame_is = made_frame;
    was = made_still.held_is;
    which = now.which;
    two = now.two;
    beside = record { size = now.beside.size; same = λ i k. now.beside.same i k.1 };
    record_is = now.record_is;
  }

  recording_sound : new.bank < 2 → new.length ≤ bank_size frame → HasActiveSlots frame a new.active → MayBeInstalled frame a bytes new → (image : List ℕ) → IsRecording frame held new made image → Sound image
  recording_sound bank size active may image now =
      laws.committed frame held new made image (committing image now) (in_range frame held bytes a made is filled.beside new bank size active)
      (λ layout key other config. subst (λ (f : Frame). IsInstalled layout key (recorded_bank f (head_of f made) new) new) (sym (made_frame.told layout key other config))
      (subst (λ (l : List ℕ). IsInstalled layout key l new) (sym filled.holds)
      (may layout key (config_back frame held bytes a made is filled.beside layout key told (by_told (length made) made frame made_frame.told layout key other config)))))
      made_still.sound

  recording_follows : IfSome held (λ r. IsNoEarlier r new) → (image : List ℕ) → IsRecording frame held new made image → Follows a image
  recording_follows sure image now = laws.onward a made image made_still.follows (laws.follows frame held new made image (committing image now) sure made_still.sound)

-- ---- each image

module _ (laws : SoundLaws) (frame : Frame) (held : Option Record) (new : Record) (bytes : List ℕ) (a : Flash) (is : IsFrame (length a.reads) frame) (told : frame_told a.reads ≡ Some frame) (few : IfSome held (IsLoadable frame)) (fits : length bytes ≤ bank_size frame)
    (was : RecordOf frame (head_of frame a.reads) held) (sound : Sound a.reads) (firm : IsFirmOn (InHead frame) a) where
  -- while the bank is written
  pub filling_still : (image : List ℕ) → ImageOn (BesideBank frame held bytes) a image → IsStillSound frame held a.reads image
  filling_still image on =
      let sure = firm on.from on.was in
      let here = facts (length a.reads) frame is in
      laws.kept frame held a.reads image (has_frame frame a.reads is told) was
      (record {
        size = on.same.size ∙ sure.size;
        same = λ i says. on.same.same i (says_beside (length a.reads) frame here held bytes fits few i says) ∙ sure.same i (says_head (length a.reads) frame here held few i says);
      })
      sound

  installing_sound : new.bank < 2 → new.length ≤ bank_size frame → HasActiveSlots frame a.reads new.active → MayBeInstalled frame a.reads bytes new → (image : List ℕ) → IsInstalling frame held new bytes a image → Sound image
  installing_sound bank size active may image (Filling on) = (filling_still image on).sound
  installing_sound bank size active may image (Recording made filled now) = recording_sound laws frame held new bytes a.reads made is told few fits was sound filled bank size active may image now

  installing_follows : IfSome held (λ r. IsNoEarlier r new) → (image : List ℕ) → IsInstalling frame held new bytes a image → Follows a.reads image
  installing_follows sure image (Filling on) = (filling_still image on).follows
  installing_follows sure image (Recording made filled now) = recording_follows laws frame held new bytes a.reads made is told few fits was sound filled sure image now

-- ---- from one call to the next

spare_two : (frame : Frame) (head : List ℕ) (o : Option Record) (w : ℕ) → IsSpare frame head o w → w < 2
spare_two frame head None w spare = omega (arith, spare)
spare_two frame head (Some r) w spare = spare.0

module _ (frame : Frame) (held : Option Record) (new : Record) (bytes : List ℕ) (a c : Flash) (kept : Keeps (BesideBank frame held bytes) a c) where
  pub filling : Passes a c (IsInstalling frame held new bytes a)
  filling = weakens a c (ImageOn (BesideBank frame held bytes) a) (IsInstalling frame held new bytes a) (λ image on. Filling on) kept.images

  -- the commit
  recording : (d : Flash) → IsFilled frame held new bytes a.reads c.reads → IsFirmOn (λ i. Unit {0}) c → Passes c d (HasHeldOrNew frame held new) → KeepsBesideSpare frame held c d → Passes c d (IsInstalling frame held new bytes a)
  recording d filled firm run spare =
      weakens c d (λ image. HasHeldOrNew frame held new image × ImageOn (Outside (record_place frame spare.which) (record_length frame)) c image) (IsInstalling frame held new bytes a)
      (λ image p. Recording c.reads filled (record {
        which = spare.which;
        two = spare_two frame (head_of frame c.reads) held spare.which spare.spare;
        beside = record { size = p.1.same.size ∙ (firm p.1.from p.1.was).size; same = λ i k. p.1.same.same i k ∙ (firm p.1.from p.1.was).same i tt };
        record_is = p.0;
      }))
      (both c d (HasHeldOrNew frame held new) (ImageOn (Outside (record_place frame spare.which) (record_length frame)) c) run spare.keeps.images)

-- ---- the record that is committed

pub same_record : (frame : Frame) (held : Option Record) (image bytes : List ℕ) (sequence : ℕ) (digest : Digest) (active : List ℕ) (g b : ℕ) → g ≡ next_generation held → b ≡ bank_for frame held image bytes
    → record { generation = g; sequence = sequence; bank = b; length = length bytes; digest = digest; active = active } ≡ new_record frame held image bytes sequence digest active
same_record frame held image bytes sequence digest active g b eg eb =
    λ i. record { generation = eg i; sequence = sequence; bank = eb i; length = length bytes; digest = digest; active = active }

pub next_is : (held : Option Record) (new : Record) → new.generation ≡ next_generation held → IsNext held new
next_is None new is = is
next_is (Some r) new is = is

either_small : (b : Bool) (m n : ℕ) → m < 2 → n < 2 → (if b then m else n) < 2
either_small true m n first second = first
either_small false m n first second = second

bank_small : (frame : Frame) (held : Option Record) (image bytes : List ℕ) → IfSome held (IsLoadable frame) → bank_for frame held image bytes < 2
bank_small frame None image bytes few = omega arith
bank_small frame (Some r) image bytes few = either_small (is_kept frame (Some r) image bytes) r.bank (1 - r.bank) few.bank (omega arith)

-- ---- all of it

module _ (laws : SoundLaws) (frame : Frame) (held : Option Record) (bytes : List ℕ) (sequence : ℕ) (digest : Digest) (active : List ℕ) (a : Flash) (is : IsFrame (length a.reads) frame) (told : frame_told a.reads ≡ Some frame) (few : IfSome held (IsLoadable frame))
    (fits : length bytes ≤ bank_size frame) (was : RecordOf frame (head_of frame a.reads) held) (sound : Sound a.reads) (firm : IsFirmOn (InHead frame) a) where
  abbrev new : Record
  new = new_record frame held a.reads bytes sequence digest active

  pub each_sound : (d : Flash) → HasActiveSlots frame a.reads active → Passes a d (IsInstalling frame held new bytes a) → MayBeInstalled frame a.reads bytes new → Passes a d Sound
  each_sound d slots run may =
      weakens a d (IsInstalling frame held new bytes a) Sound (installing_sound laws frame held new bytes a is told few fits was sound firm (bank_small frame held a.reads bytes few) fits slots may) run

  pub each_follows : (d : Flash) → Passes a d (IsInstalling frame held new bytes a) → IfSome held (λ r. IsNoEarlier r new) → Passes a d (Follows a.reads)
  each_follows d run sure = weakens a d (IsInstalling frame held new bytes a) (Follows a.reads) (installing_follows laws frame held new bytes a is told few fits was sound firm sure) run

-- the bank and the commit
module _ (frame : Frame) (held : Option Record) (new code : Record) (bytes : List ℕ) (a c d : Flash) (same : code ≡ new) (kept : Keeps (BesideBank frame held bytes) a c) where
  pub bank_and_commit : recorded_bank frame (head_of frame c.reads) code ≡ bytes → IsSettled c → Passes c d (HasHeldOrNew frame held code) → KeepsBesideSpare frame held c d → Passes a d (IsInstalling frame held new bytes a)
  bank_and_commit holds settled run spare =
      joined a c d (IsInstalling frame held new bytes a) (filling frame held new bytes a c kept)
      (recording frame held new bytes a c kept d (record { beside = kept.reads; holds = subst (λ (n : Record). recorded_bank frame (head_of frame c.reads) n ≡ bytes) same holds }) (settled_firm (λ i. Unit {0}) c settled)
      (subst (λ (n : Record). Passes c d (HasHeldOrNew frame held n)) same run) spare)

-- ---- beside the head

module _ (size : ℕ) (frame : Frame) (is : FrameFacts size frame) (held : Option Record) (bytes : List ℕ) (fits : length bytes ≤ bank_size frame) where
  -- nothing changes while the bank is written
  pub beside_bank : (a c : List ℕ) → SameOn (BesideBank frame held bytes) a c → SameOn (BesideHead frame) a c
  beside_bank a c same = record { size = same.size; same = λ i out. same.same i (beside_banks size frame is held bytes fits i out) }

  -- nor while the record is committed
  pub beside_commit : (a : List ℕ) (c d : Flash) → SameOn (BesideBank frame held bytes) a c.reads → KeepsBesideSpare frame held c d → SameOn (BesideHead frame) a d.reads
  beside_commit a c d same spare =
      let two : spare.which < 2 = spare_two frame (head_of frame c.reads) held spare.which spare.spare in
      let first = beside_bank a c.reads same in
      record {
        size = spare.keeps.reads.size ∙ first.size;
        same = λ i out. spare.keeps.reads.same i (beside_page size frame is spare.which i two out) ∙ first.same i out;
      }

-- the record that was committed, by its fields
pub held_or_same : (frame : Frame) (held : Option Record) (code other : Record) (image : List ℕ) → code ≡ other → HasHeldOrNew frame held code image → HasHeldOrNew frame held other image
held_or_same frame held code other image same is = subst (λ (r : Record). HasHeldOrNew frame held r image) same is
