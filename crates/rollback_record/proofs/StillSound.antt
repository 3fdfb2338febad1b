-- A sound flash stays so while nothing changes that says what is recorded.
use Rattle.std.proofs.Common.{◌≡◌, inl, inr, ◌<◌, ◌≤◌, ℕ, ◌+◌, ◌-◌, List, length, get_or, Option, Some, None, refl, sym, ◌∙◌, subst, arith}
use Rattle.suit_edge.specs.Gate.{IsGate}
use Rattle.suit_edge.specs.Ranges.{SameOn}
use Rattle.suit_edge.specs.RangeLaws.{same_range}
use Rattle.flash_layout.specs.declared.frame.Frame.{Frame}
use Rattle.flash_layout.specs.declared.key.Key.{Key}
use Rattle.flash_layout.specs.declared.layout.Entry.{Entry}
use Rattle.flash_layout.specs.declared.slot.Record.{Record}
use Rattle.flash_layout.specs.Configs.{ConfigOf, Configured}
use Rattle.flash_layout.specs.FrameFacts.{FrameFacts, byte_there, facts, page_there}
use Rattle.flash_layout.specs.Frames.{bank_from, config_page_of, head_of, head_size, page_bytes, record_from, record_place}
use Rattle.rollback_record.specs.declared.spare.Spare.{Spare}
use Rattle.rollback_record.specs.Committing.{HasSpare, IsSpare}
use Rattle.rollback_record.specs.HeadRecord.{Counts, RecordOf, record_bytes}
use Rattle.rollback_record.specs.RecordPage.{record_length}
use Rattle.rollback_record.specs.SoundFlash.{Follows, FollowsBlank, FollowsOn, IsInstalled, Sound, SoundBlank, SoundEmpty, SoundInstalled, recorded_bank}
use Rattle.rollback_record.specs.SoundLaws.{HasFrame, IsStillSound, SaysRecorded, TellsFrame}
use Rattle.rollback_record.proofs.OneAnswers.{one_answer}
use Rattle.rollback_record.proofs.Pages.{bytes_in, counts_of}
use Rattle.rollback_record.proofs.Widths.{most_few}
use Rattle.rollback_record.proofs.SoundBy.{SoundBy, BlankBy, EmptyBy, InstalledBy, sound_by}
use Rattle.rollback_record.proofs.Sounds.{same_bank, same_blank, same_config}

at_front : (frame : Frame) (held : Option Record) (before image : List ℕ) → SameOn (SaysRecorded frame held) before image → (i : ℕ) → frame.base ≤ i → i < frame.base + bank_from frame 0
    → get_or image i 0 ≡ get_or before i 0
at_front frame None before image same i low high = same.same i (inr (low, high))
at_front frame (Some r) before image same i low high = same.same i (inr (inl (low, high)))

at_tells : (frame : Frame) (held : Option Record) (before image : List ℕ) → SameOn (SaysRecorded frame held) before image → (i : ℕ) → TellsFrame i → get_or image i 0 ≡ get_or before i 0
at_tells frame None before image same i tells = same.same i (inl tells)
at_tells frame (Some r) before image same i tells = same.same i (inl tells)

module _ (frame : Frame) (held : Option Record) (a c : List ℕ) (has : HasFrame frame a) (was : RecordOf frame (head_of frame a) held) (same : SameOn (SaysRecorded frame held) a c) where
  is : FrameFacts (length a) frame
  is = facts (length a) frame has.is

  front : (i : ℕ) → frame.base ≤ i → i < frame.base + bank_from frame 0 → get_or c i 0 ≡ get_or a i 0
  front = at_front frame held a c same

  large_c : frame.base + head_size frame ≤ length c
  large_c = omega (arith, same.size, is.inside)

  page_same : config_page_of frame (head_of frame a) ≡ config_page_of frame (head_of frame c)
  page_same =
      page_there (length a) frame is a
      ∙ sym (same_range c a frame.base (frame.base + page_bytes frame) same.size (omega (arith, large_c, is.page, is.head)) (λ i low high. front i low (omega (arith, high, is.page, is.first_bank))))
      ∙ sym (page_there (length a) frame is c)

  tells_same : (i : ℕ) → TellsFrame i → get_or c i 0 ≡ get_or a i 0
  tells_same = at_tells frame held a c same

  bytes_same : (v : ℕ) → v < 2 → record_bytes frame (head_of frame a) v ≡ record_bytes frame (head_of frame c) v
  bytes_same v few =
      bytes_in (length a) frame is a v few
      ∙ sym (same_range c a (record_place frame v) (record_place frame v + record_length frame) same.size (omega (arith, large_c, few, is.head, most_few frame)) (λ i low high. front i (omega (arith, low)) (omega (arith, high, few, is.first_bank, most_few frame))))
      ∙ sym (bytes_in (length a) frame is c v few)

  counted : (v : ℕ) (r : Record) → v < 2 → Counts frame (head_of frame a) v r → Counts frame (head_of frame c) v r
  counted v r few count = counts_of (length a) frame is a c v r large_c page_same (bytes_same v few) count

  counted_before : (v : ℕ) (r : Record) → v < 2 → Counts frame (head_of frame c) v r → Counts frame (head_of frame a) v r
  counted_before v r few count = counts_of (length a) frame is c a v r is.inside (sym page_same) (sym (bytes_same v few)) count

  recorded : (o : Option Record) → RecordOf frame (head_of frame a) o → RecordOf frame (head_of frame c) o
  recorded None none = λ v r few count. none v r few (counted_before v r few count)
  recorded (Some r) h = record {
    which = h.which;
    inside = h.inside;
    counts = counted h.which r h.inside h.counts;
    highest = λ other count. h.highest other (counted_before (1 - h.which) other (omega arith) count);
  }

  -- the record that was held stands still
  pub still_held : RecordOf frame (head_of frame c) held
  still_held = recorded held was

  still_free : (o : Option Record) (w : ℕ) → w < 2 → IsSpare frame (head_of frame a) o w → IsSpare frame (head_of frame c) o w
  still_free None w two free = free
  still_free (Some r) w two free = (free.0, counted (1 - w) r (omega arith) free.1)

  record_gate : (w : ℕ) → w < 2 → get_or (head_of frame a) (record_from frame w) 0 ≡ get_or (head_of frame c) (record_from frame w) 0
  record_gate w two =
      byte_there (length a) frame is a (record_from frame w) (omega (arith, two, is.head)) ∙ sym (front (record_place frame w) (omega arith) (omega (arith, two, is.first_bank)))
      ∙ sym (byte_there (length a) frame is c (record_from frame w) (omega (arith, two, is.head)))

  -- and the page beside it is free still
  pub still_spare : (spare : Spare) → spare.which < 2 → HasSpare frame (head_of frame a) held spare → HasSpare frame (head_of frame c) held spare
  still_spare spare two beside = record {
    free = still_free held spare.which two beside.free;
    gate = subst (λ (b : ℕ). IsGate spare.gate b) (record_gate spare.which two) beside.gate;
  }

  configured : (layout : List Entry) (key : Key) → ConfigOf (length a) a (Configured layout key frame) → ConfigOf (length c) c (Configured layout key frame)
  configured = same_config (length a) frame is a c is.inside same.size page_same tells_same

  -- the bank of the record that is held
  banked : (layout : List Entry) (key : Key) (r : Record) → RecordOf frame (head_of frame a) (Some r) → IsInstalled layout key (recorded_bank frame (head_of frame a) r) r
      → IsInstalled layout key (recorded_bank frame (head_of frame c) r) r
  banked layout key r stands installed =
      subst (λ (l : List ℕ). IsInstalled layout key l r)
      (same_bank (length a) frame is a c is.inside same.size page_same tells_same r.bank r.length stands.counts.page.fields.bank stands.counts.page.fields.size (λ i low high. at_held.same i (inr (inr (low, high)))))
      installed
    where
      at_held : SameOn (SaysRecorded frame (Some r)) a c
      at_held = subst (λ (o : Option Record). SameOn (SaysRecorded frame o) a c) (one_answer frame (head_of frame a) held (Some r) was stands) same

  sound_of : SoundBy frame a → Sound c
  sound_of (BlankBy blank) = SoundBlank (same_blank (length a) frame is a c is.inside same.size page_same tells_same blank)
  sound_of (EmptyBy layout key config none) = SoundEmpty layout key frame (configured layout key config) (recorded None none)
  sound_of (InstalledBy layout key r config stands installed) = SoundInstalled layout key frame r (configured layout key config) (recorded (Some r) stands) (banked layout key r stands installed)

  goes_on : (layout : List Entry) (key : Key) → ConfigOf (length a) a (Configured layout key frame) → Follows a c
  goes_on layout key config = FollowsOn (record {
    layout = layout;
    key = key;
    before = frame;
    now = frame;
    was = config;
    is = configured layout key config;
    later = λ r stands. (r, recorded (Some r) stands, record { number = omega arith; same = λ _. refl });
  })

  follows_of : SoundBy frame a → Follows a c
  follows_of (BlankBy blank) = FollowsBlank blank
  follows_of (EmptyBy layout key config none) = goes_on layout key config
  follows_of (InstalledBy layout key r config stands installed) = goes_on layout key config

  pub still_sound : Sound a → IsStillSound frame held a c
  still_sound sound = let by = sound_by frame a has.told sound in record { sound = sound_of by; held_is = still_held; follows = follows_of by }
