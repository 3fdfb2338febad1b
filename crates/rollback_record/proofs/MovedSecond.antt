-- What an image tells whose root is open, where all stands at the base that a migration writes.
use Rattle.std.proofs.Common.{◌≡◌, ⊎_elim, inl, inr, ◌≤◌, ◌<◌, ◌+◌, ◌-◌, [], ◌∷◌, ℕ, List, length, get_or, Option, None, Some, refl, sym, ap, subst, ◌∙◌, arith}
use Rattle.std.specs.List.{All, slice_range}
use Rattle.std.proofs.lemmas.List.Edits.{length-between}
use Rattle.flash_layout.specs.declared.frame.Frame.{Frame}
use Rattle.flash_layout.specs.declared.frame.TheConstants.{VERSION_1}
use Rattle.flash_layout.specs.declared.key.Key.{Key}
use Rattle.flash_layout.specs.declared.layout.Entry.{Entry}
use Rattle.flash_layout.specs.declared.layout.Memory.TheVariants as memory
use Rattle.flash_layout.specs.declared.slot.Record.{Record}
use Rattle.flash_layout.specs.Configs.{ConfigOf, Configured}
use Rattle.flash_layout.specs.FrameFacts.{FrameFacts, bank_there, by_second, byte_there, facts, page_there}
use Rattle.flash_layout.specs.Frames.{IsFrame, bank_place, config_page_of, head_of, head_size, record_from, record_place}
use Rattle.flash_layout.specs.Layouts.{IsLayout}
use Rattle.flash_layout.specs.Roots.{frame_told}
use Rattle.flash_layout.specs.Slots.{layout_slots, slot_content}
use Rattle.rollback_record.specs.declared.moved.Installed.{Installed}
use Rattle.rollback_record.specs.HeadRecord.{RecordOf}
use Rattle.rollback_record.specs.Migrating.{HoldsAlike, NoRecord, OneRecord, IsSameInstallation}
use Rattle.rollback_record.specs.Moved.{AreRead, IsFilled}
use Rattle.rollback_record.specs.RecordPage.{IsActiveSlot, IsInRange, IsTypedRecord, record_body, record_length}
use Rattle.rollback_record.specs.SoundFlash.{recorded_bank}
use Rattle.rollback_record.proofs.ConfigSlots.{has_two, second_slot}
use Rattle.rollback_record.proofs.Pages.{bytes_in, gate_open, head_long}
use Rattle.rollback_record.proofs.Sounds.{no_record}

-- some component, where any serves
some_entry : Entry
some_entry = record { identifier = []; memory = memory.Ram; slots = 0; starts = []; capacity = 0; vendor = None; class = None; device = None }

abbrev pub in_first : Record → Record
in_first r = record r { bank = 0 }

pub first_typed : (r : Record) → IsTypedRecord r → IsTypedRecord (in_first r)
first_typed r is = record { generation = is.generation; sequence = is.sequence; size = is.size; digest = is.digest; active = is.active }

module _ (layout : List Entry) (key : Key) (a image : List ℕ) (frame : Frame) (config : ConfigOf (length a) a (Configured layout key VERSION_1)) (fits : IsFrame (length a) frame) (allowed : IsLayout frame (length a) layout) (two : frame.version ≡ 2)
    (long : length image ≡ length a) (told : frame_told image ≡ Some frame) (installed : Option Installed) (filled : IsFilled frame layout key installed image) where
  there : FrameFacts (length a) frame
  there = facts (length a) frame fits

  first : FrameFacts (length a) VERSION_1
  first = facts (length a) VERSION_1 config.placed

  room : frame.base + head_size frame ≤ length image
  room = omega (arith, long, there.inside)

  pub second_config : ConfigOf (length image) image (Configured layout key frame)
  second_config = record {
    placed = subst (λ (n : ℕ). IsFrame n frame) (sym long) fits;
    told = told;
    whole = room;
    typed = config.typed;
    page = record {
      allowed = subst (λ (n : ℕ). IsLayout frame n layout) (sym long) allowed;
      sound = config.page.sound;
      is = page_there (length a) frame there image ∙ filled.page;
    };
  }

  gate_shut : (w : ℕ) → w < 2 → get_or image (record_place frame w) 0 ≡ 0 → get_or (head_of frame image) (record_from frame w) 0 ≡ 0xA5 → ⊥
  gate_shut w few shut opened = omega (arith, opened, shut, byte_there (length a) frame there image (record_from frame w) (omega (arith, few, there.head)))

  slot_there : (r : Record) (i slot : ℕ) → IsActiveSlot VERSION_1 (config_page_of VERSION_1 (head_of VERSION_1 a)) i slot → IsActiveSlot frame (config_page_of frame (head_of frame image)) i slot
  slot_there r i slot active = ⊎_elim
      (λ zero. inl zero)
      (λ second.
      let has = has_two VERSION_1 (length a) (config_page_of VERSION_1 (head_of VERSION_1 a)) layout key config.page config.typed.entries config.typed.room i second.2 in
      let low = second.1 in
      inr (second.0, omega (arith, low, by_second frame 8 32 two), second_slot frame (length image) (config_page_of frame (head_of frame image)) layout key second_config.page config.typed.entries config.typed.room i some_entry has.0 (has.1 some_entry)))
      active

  in_range : (r : Record) → IsInRange VERSION_1 (config_page_of VERSION_1 (head_of VERSION_1 a)) r → IsInRange frame (config_page_of frame (head_of frame image)) (in_first r)
  in_range r is = record {
    bank = omega arith;
    size = omega (arith, is.size, there.large);
    active = λ i low. slot_there r i (get_or r.active i 0) (is.active i low);
  }

  module _ (r : Record) (counts : IsTypedRecord r × IsInRange VERSION_1 (config_page_of VERSION_1 (head_of VERSION_1 a)) r)
      (page : slice_range image (record_place frame 0) (record_place frame 0 + record_length frame) ≡ 0xA5 ∷ record_body frame (in_first r)) where
    second_held : RecordOf frame (head_of frame image) (Some (in_first r))
    second_held = record {
      which = 0;
      inside = omega arith;
      counts = record {
        whole = head_long (length a) frame there image room;
        page = record { typed = first_typed r counts.0; fields = in_range r counts.1; bytes = bytes_in (length a) frame there image 0 (omega arith) ∙ page };
      };
      highest = λ other count. absurd (omega (arith, gate_open (length a) frame there image 1 other (omega arith) count, filled.records.second));
    }

  bank_long : (r : Record) → r.bank < 2 → r.length ≤ 16384 → length (recorded_bank VERSION_1 (head_of VERSION_1 a) r) ≡ r.length
  bank_long r few short =
      ap length (bank_there (length a) VERSION_1 first a r.bank r.length few short)
      ∙ length-between a (bank_place VERSION_1 r.bank) (bank_place VERSION_1 r.bank + r.length) (omega (arith, few, short, config.whole)) ∙ omega arith

  bank_same : (r : Record) (envelope : List ℕ) → r.bank < 2 → r.length ≤ 16384 → envelope ≡ recorded_bank VERSION_1 (head_of VERSION_1 a) r → slice_range image (bank_place frame 0) (bank_place frame 0 + length envelope) ≡ envelope
      → recorded_bank frame (head_of frame image) (in_first r) ≡ recorded_bank VERSION_1 (head_of VERSION_1 a) r
  bank_same r envelope few short read wrote =
      let same : length envelope ≡ r.length = ap length read ∙ bank_long r few short in
      bank_there (length a) frame there image 0 r.length (omega arith) (omega (arith, short, there.large))
      ∙ ap (λ (n : ℕ). slice_range image (bank_place frame 0) (bank_place frame 0 + n)) (sym same) ∙ wrote ∙ read

  alike : (o : Option Record) → RecordOf VERSION_1 (head_of VERSION_1 a) o → AreRead VERSION_1 (head_of VERSION_1 a) o installed → HoldsAlike VERSION_1 (head_of VERSION_1 a) frame (head_of frame image)
  alike None none read = none_alike installed read filled
    where
      none_alike : (i : Option Installed) → AreRead VERSION_1 (head_of VERSION_1 a) None i → IsFilled frame layout key i image → HoldsAlike VERSION_1 (head_of VERSION_1 a) frame (head_of frame image)
      none_alike None read filled = NoRecord none (no_record frame (head_of frame image) (gate_shut 0 (omega arith) filled.records.first, gate_shut 1 (omega arith) filled.records.second))
      none_alike (Some i) read filled = absurd read
  alike (Some r) is read = some_alike installed read filled
    where
      some_alike : (i : Option Installed) → AreRead VERSION_1 (head_of VERSION_1 a) (Some r) i → IsFilled frame layout key i image → HoldsAlike VERSION_1 (head_of VERSION_1 a) frame (head_of frame image)
      some_alike None read filled = absurd read
      some_alike (Some i) read filled =
          let fields = is.counts.page.fields in
          let page = subst (λ (s : Record). slice_range image (record_place frame 0) (record_place frame 0 + record_length frame) ≡ 0xA5 ∷ record_body frame s) read.is filled.records.first in
          OneRecord r (in_first r) is (second_held r (is.counts.page.typed, fields) page)
          (record { generation = refl; sequence = refl; size = refl; digest = refl; active = refl })
          (bank_same r i.envelope.items fields.bank fields.size read.envelope filled.envelope)

  pub tells_second : (o : Option Record) → RecordOf VERSION_1 (head_of VERSION_1 a) o → AreRead VERSION_1 (head_of VERSION_1 a) o installed → All (λ slot. slot_content slot image ≡ slot_content slot a) (layout_slots layout) → IsSameInstallation a image
  tells_second o is read slots =
      record { layout = layout; key = key; frame = VERSION_1; there = frame; was = config; is = second_config; held = alike o is read; slots = slots }
