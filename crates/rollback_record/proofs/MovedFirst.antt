-- What an image tells while a flash is migrated and its root is not open.
use Rattle.std.proofs.Common.{◌≡◌, ◌≤◌, ◌<◌, ◌+◌, ◌-◌, ℕ, List, length, get_or, Option, None, Some, refl, sym, ap, subst, ◌∙◌, arith}
use Rattle.std.specs.List.{All}
use Rattle.suit_edge.specs.Flash.{Flash, Now}
use Rattle.suit_edge.specs.Gate.{IsOpen}
use Rattle.suit_edge.specs.RangeLaws.{same_range}
use Rattle.flash_layout.specs.declared.frame.Frame.{Frame}
use Rattle.flash_layout.specs.declared.frame.TheConstants.{ROOT_GATE, VERSION_1}
use Rattle.flash_layout.specs.declared.key.Key.{Key}
use Rattle.flash_layout.specs.declared.layout.Entry.{Entry}
use Rattle.flash_layout.specs.declared.slot.Record.{Record}
use Rattle.flash_layout.specs.ConfigPage.{IsConfigPage}
use Rattle.flash_layout.specs.Configs.{ConfigOf, Configured}
use Rattle.flash_layout.specs.FrameFacts.{FrameFacts, bank_there, facts, page_there}
use Rattle.flash_layout.specs.Frames.{IsFrame, bank_place, config_page_of, head_of, record_place}
use Rattle.flash_layout.specs.RootLaws.{told_closed}
use Rattle.flash_layout.specs.Slots.{layout_slots, slot_content}
use Rattle.flash_layout.specs.ToldFrames.{same_config}
use Rattle.rollback_record.specs.HeadRecord.{Counts, RecordOf, record_bytes}
use Rattle.rollback_record.specs.Migrating.{HoldsAlike, IsReady, IsSameRecord, NoRecord, OneRecord, IsSameInstallation}
use Rattle.rollback_record.specs.SoundFlash.{recorded_bank}
use Rattle.rollback_record.proofs.Pages.{bytes_in, counts_of}
use Rattle.rollback_record.proofs.SomeAnswers.{some_answer}

pub same_record : (r : Record) → IsSameRecord r r
same_record r = record { generation = refl; sequence = refl; size = refl; digest = refl; active = refl }

-- the same head holds the same
alike_by : (frame : Frame) (head other : List ℕ) → other ≡ head → (o : Option Record) → RecordOf frame head o → HoldsAlike frame head frame other
alike_by frame head other same None none = NoRecord none (subst (λ (h : List ℕ). RecordOf frame h None) (sym same) none)
alike_by frame head other same (Some r) is = OneRecord r r is (subst (λ (h : List ℕ). RecordOf frame h (Some r)) (sym same) is) (same_record r) (ap (λ (h : List ℕ). recorded_bank frame h r) same)

-- each image that a power loss leaves of a settled flash tells what it reads
pub resting : (f : Flash) → IsReady f → (image : List ℕ) → Now f image → IsSameInstallation f.reads image
resting f ready image now =
    let same = ready.settled.sure image now in
    let head = same.head.head ready.frame ready.config.told in
    let held = some_answer ready.frame (head_of ready.frame f.reads) in
    record {
      layout = ready.layout;
      key = ready.key;
      frame = ready.frame;
      there = ready.frame;
      was = ready.config;
      is = same_config f.reads image same.head (Configured ready.layout ready.key ready.frame) ready.config;
      held = alike_by ready.frame (head_of ready.frame f.reads) (head_of ready.frame image) head held.0 held.1;
      slots = same.slots ready.layout ready.key ready.frame ready.config;
    }

-- ---- version 1

module _ (a image : List ℕ) (layout : List Entry) (key : Key) (long : length image ≡ length a) (config : ConfigOf (length a) a (Configured layout key VERSION_1))
    (front : (i : ℕ) → i < 45056 → get_or image i 0 ≡ get_or a i 0) (closed : IsOpen image ROOT_GATE → ⊥) where
  placed : FrameFacts (length a) VERSION_1
  placed = facts (length a) VERSION_1 config.placed

  room : 49152 ≤ length image
  room = omega (arith, long, config.whole)

  page_same : config_page_of VERSION_1 (head_of VERSION_1 a) ≡ config_page_of VERSION_1 (head_of VERSION_1 image)
  page_same =
      page_there (length a) VERSION_1 placed a ∙ sym (same_range image a 0 1204 long (omega (arith, room)) (λ i low high. front i (omega (arith, high)))) ∙ sym (page_there (length a) VERSION_1 placed image)

  pub first_config : ConfigOf (length image) image (Configured layout key VERSION_1)
  first_config = record {
    placed = subst (λ (n : ℕ). IsFrame n VERSION_1) (sym long) config.placed;
    told = told_closed image closed;
    whole = omega (arith, room);
    typed = config.typed;
    page = subst (λ (n : ℕ). IsConfigPage VERSION_1 n (config_page_of VERSION_1 (head_of VERSION_1 image)) layout key) (sym long)
        (subst (λ (l : List ℕ). IsConfigPage VERSION_1 (length a) l layout key) page_same config.page);
  }

  bytes_same : (v : ℕ) → v < 2 → record_bytes VERSION_1 (head_of VERSION_1 a) v ≡ record_bytes VERSION_1 (head_of VERSION_1 image) v
  bytes_same v few =
      bytes_in (length a) VERSION_1 placed a v few
      ∙ sym (same_range image a (record_place VERSION_1 v) (record_place VERSION_1 v + 99) long (omega (arith, few, room)) (λ i low high. front i (omega (arith, high, few))))
      ∙ sym (bytes_in (length a) VERSION_1 placed image v few)

  counted : (v : ℕ) (r : Record) → v < 2 → Counts VERSION_1 (head_of VERSION_1 a) v r → Counts VERSION_1 (head_of VERSION_1 image) v r
  counted v r few count = counts_of (length a) VERSION_1 placed a image v r (omega (arith, room)) page_same (bytes_same v few) count

  counted_before : (v : ℕ) (r : Record) → v < 2 → Counts VERSION_1 (head_of VERSION_1 image) v r → Counts VERSION_1 (head_of VERSION_1 a) v r
  counted_before v r few count = counts_of (length a) VERSION_1 placed image a v r (omega (arith, room, long)) (sym page_same) (sym (bytes_same v few)) count

  recorded : (o : Option Record) → RecordOf VERSION_1 (head_of VERSION_1 a) o → RecordOf VERSION_1 (head_of VERSION_1 image) o
  recorded None none = λ v r few count. none v r few (counted_before v r few count)
  recorded (Some r) h = record {
    which = h.which;
    inside = h.inside;
    counts = counted h.which r h.inside h.counts;
    highest = λ other count. h.highest other (counted_before (1 - h.which) other (omega arith) count);
  }

  banked : (r : Record) → r.bank < 2 → r.length ≤ 16384 → recorded_bank VERSION_1 (head_of VERSION_1 image) r ≡ recorded_bank VERSION_1 (head_of VERSION_1 a) r
  banked r two few =
      bank_there (length a) VERSION_1 placed image r.bank r.length two few
      ∙ same_range image a (bank_place VERSION_1 r.bank) (bank_place VERSION_1 r.bank + r.length) long (omega (arith, two, few, room)) (λ i low high. front i (omega (arith, high, two, few)))
      ∙ sym (bank_there (length a) VERSION_1 placed a r.bank r.length two few)

  alike : (o : Option Record) → RecordOf VERSION_1 (head_of VERSION_1 a) o → HoldsAlike VERSION_1 (head_of VERSION_1 a) VERSION_1 (head_of VERSION_1 image)
  alike None none = NoRecord none (recorded None none)
  alike (Some r) is = OneRecord r r is (recorded (Some r) is) (same_record r) (banked r is.counts.page.fields.bank is.counts.page.fields.size)

  pub tells_first : All (λ slot. slot_content slot image ≡ slot_content slot a) (layout_slots layout) → IsSameInstallation a image
  tells_first slots =
      let held = some_answer VERSION_1 (head_of VERSION_1 a) in
      record { layout = layout; key = key; frame = VERSION_1; there = VERSION_1; was = config; is = first_config; held = alike held.0 held.1; slots = slots }
