-- The fields of a configuration page are at their places.
use Rattle.std.proofs.Common.{◌≡◌, ℕ, zero, suc, ◌+◌, ◌-◌, ◌*◌, ◌^◌, ◌<◌, ◌≤◌, List, [], ◌∷◌, ◌++◌, length, get_or, replicate, Option, Some, None, refl, sym, ap, subst, ◌∙◌, append_assoc, arith}
use Rattle.std.specs.List.{slice_range, All}
use Rattle.std.proofs.lemmas.List.Elements.{All-head, All-tail}
use Rattle.std.proofs.lemmas.List.{append-nil, length-append, length-replicate}
use Rattle.flash_layout.specs.declared.frame.Frame.{Frame}
use Rattle.flash_layout.specs.declared.layout.Entry.{Entry}
use Rattle.flash_layout.specs.Frames.{most}
use Rattle.flash_layout.specs.declared.layout.Memory.{Memory}
use Rattle.flash_layout.specs.declared.layout.Memory.TheVariants as memory
use Rattle.flash_layout.specs.declared.key.Key.{Key}
use Rattle.suit_params.specs.Identifiers.{spelled_id}
use Rattle.flash_layout.specs.Layouts.{IsTypedEntry, AreTyped}
use Rattle.flash_layout.specs.ConfigPage.{memory_byte, optional_id, number_bytes, entry_bytes, entries_bytes, config_page}
use Rattle.flash_layout.specs.PageReading.{number_at}
use Rattle.flash_layout.specs.PagePlaces.{IsMemoryByte, IsIdField, IsNumberField, IsIdentifierField, HasEntryPlaces, HasPagePlaces, PagePlaces}
use Rattle.flash_layout.proofs.PageFields.{field, number_read}
use Rattle.flash_layout.proofs.Laws.{IsShort, entry_fields, entry_long, entries_long, short_of}

-- ---- one component

-- given the bytes of the two memories
pub memory_placed : (m : Memory) → memory_byte memory.Flash ≡ 0 → memory_byte memory.Ram ≡ 1
    → IsMemoryByte m (memory_byte m)
memory_placed memory.Flash flash ram = flash
memory_placed memory.Ram flash ram = ram

pub id_placed : (id : Option (List ℕ)) (bytes : List ℕ) → bytes ≡ optional_id id → IsIdField id bytes
id_placed None bytes is = is
id_placed (Some id) bytes is = is

pub number_placed : (n : ℕ) (bytes : List ℕ) → n < 2 ^ 64 → bytes ≡ number_bytes n → IsNumberField n bytes
unfolding number_at
number_placed n bytes fits is = ap number_at is ∙ number_read n fits

pub identifier_placed : (e : Entry) → IsTypedEntry e → IsShort e → IsIdentifierField (length (spelled_id e.identifier)) e.identifier (slice_range (entry_bytes e) 3 67)
unfolding entry_bytes
identifier_placed e typed short =
    let f = entry_fields e typed short in
    let spelling = spelled_id e.identifier in
    let n = length spelling in
    let zeros : List ℕ = replicate (64 - n) 0 in
    let long : length zeros ≡ 64 - n = length-replicate {A = ℕ} (64 - n) 0 in (
      refl,
      ap (λ (l : List ℕ). slice_range l 0 n) f.padded ∙ field [] spelling zeros (spelling ++ zeros) 0 n refl refl (omega arith),
      ap (λ (l : List ℕ). slice_range l n 64) f.padded ∙ field spelling zeros [] (spelling ++ zeros) n 64 (ap (λ (l : List ℕ). spelling ++ l) (sym (append-nil zeros))) refl long,
    )

-- ---- components

-- the component with an index, in a list of bytes where it follows k others
entry_slice : (es : List Entry) (before after : List ℕ) (i k : ℕ) (d : Entry) → All IsTypedEntry es → All IsShort es → i < length es → length before ≡ k
    → slice_range (before ++ (entries_bytes es ++ after)) (k + 142 * i) (k + 142 * (i + 1)) ≡ entry_bytes (get_or es i d)
entry_slice [] before after i k d typed short inside long = absurd (omega (arith, inside))
entry_slice (e ∷ es) before after zero k d typed short inside long =
    let one = entry_long e (All-head IsTypedEntry e es typed) (All-head IsShort e es short) in
    field before (entry_bytes e) (entries_bytes es ++ after) (before ++ ((entry_bytes e ++ entries_bytes es) ++ after)) (k + 142 * 0) (k + 142 * (0 + 1))
    (ap (λ (l : List ℕ). before ++ l) (append_assoc (entry_bytes e) (entries_bytes es) after)) (omega (arith, long)) (omega (arith, one))
entry_slice (e ∷ es) before after (suc i) k d typed short inside long =
    let one = entry_long e (All-head IsTypedEntry e es typed) (All-head IsShort e es short) in
    let more : length (before ++ entry_bytes e) ≡ k + 142 = omega (arith, long, one, length-append before (entry_bytes e)) in
    let rest = entry_slice es (before ++ entry_bytes e) after i (k + 142) d (All-tail IsTypedEntry e es typed) (All-tail IsShort e es short) (omega (arith, inside)) more in
    let whole : before ++ ((entry_bytes e ++ entries_bytes es) ++ after) ≡ (before ++ entry_bytes e) ++ (entries_bytes es ++ after) = simp append_assoc in
    let from : k + 142 * suc i ≡ k + 142 + 142 * i = omega arith in
    let to : k + 142 * (suc i + 1) ≡ k + 142 + 142 * (i + 1) = omega arith in
    rw (whole, from, to) rest

-- ---- the page

-- given where each component's fields are in its bytes
page_placed : ((e : Entry) → IsTypedEntry e → IsShort e → HasEntryPlaces e (entry_bytes e)) → (frame : Frame) (layout : List Entry) (key : Key) → AreTyped layout key → All IsShort layout → length layout ≤ most frame
    → HasPagePlaces frame layout key (config_page frame layout key)
unfolding config_page
page_placed placed frame layout key typed short few =
    let entries = entries_bytes layout in
    let zeros : List ℕ = replicate (142 * most frame - length entries) 0 in
    let front : List ℕ = 0xA5 ∷ frame.version ∷ key.length ∷ length layout ∷ key.bytes in
    let room : length front ≡ 68 = omega (arith, typed.room) in
    let long : length entries ≡ 142 * length layout = entries_long layout typed.entries short in
    let last : length (front ++ entries) ≡ 68 + 142 * length layout = omega (arith, room, long, length-append front entries) in
    let padding : 142 * most frame - length entries ≡ (68 + 142 * most frame) - (68 + 142 * length layout) = omega (arith, long) in
    record {
      long = omega (arith, last, long, few, length-append front (entries ++ zeros), length-append front entries, length-append entries zeros, length-replicate {A = ℕ} (142 * most frame - length entries) 0);
      gate = refl;
      version = refl;
      key_size = refl;
      count = refl;
      key_bytes = field (0xA5 ∷ frame.version ∷ key.length ∷ length layout ∷ []) key.bytes (entries ++ zeros) (front ++ (entries ++ zeros)) 4 68 refl refl typed.room;
      each = λ i d inside. subst (HasEntryPlaces (get_or layout i d)) (sym (entry_slice layout front zeros i 68 d typed.entries short inside room))
          (placed (get_or layout i d) (typed.entries i d inside) (short i d inside));
      rest = field (front ++ entries) zeros [] (front ++ (entries ++ zeros)) (68 + 142 * length layout) (68 + 142 * most frame)
          (sym (append_assoc front entries zeros) ∙ ap (λ (l : List ℕ). (front ++ entries) ++ l) (sym (append-nil zeros))) last (length-replicate {A = ℕ} (142 * most frame - length entries) 0 ∙ padding)
          ∙ ap (λ (n : ℕ). replicate n 0) padding;
    }

pub page_places : ((e : Entry) → IsTypedEntry e → IsShort e → HasEntryPlaces e (entry_bytes e)) → PagePlaces
page_places placed frame size page layout key typed is = subst (HasPagePlaces frame layout key) (sym is.is) (page_placed placed frame layout key typed (short_of frame size layout is.allowed) is.allowed.few)
