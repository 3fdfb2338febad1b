-- How many slots a component has, by the bytes of the configuration page.
use Rattle.std.proofs.Common.{◌≡◌, ◌<◌, ◌≤◌, ℕ, zero, suc, ◌+◌, ◌-◌, ◌*◌, List, [], ◌∷◌, ◌++◌, length, get_or, replicate, Option, Some, None, refl, sym, ◌∙◌, ap, arith, append_assoc, length-append}
use Rattle.std.specs.Prelude.{IfSome}
use Rattle.std.specs.List.{All}
use Rattle.std.proofs.lemmas.List.{get_or-append_right, length-replicate}
use Rattle.std.proofs.lemmas.List.Elements.{All-head, All-tail}
use Rattle.flash_layout.specs.declared.frame.Frame.{Frame}
use Rattle.flash_layout.specs.declared.key.Key.{Key}
use Rattle.flash_layout.specs.declared.layout.Entry.{Entry}
use Rattle.flash_layout.specs.Frames.{most}
use Rattle.flash_layout.specs.ConfigPage.{IsConfigPage, config_page, entries_bytes, entry_bytes, number_bytes, optional_id, padded, page_front}
use Rattle.suit_params.specs.Identifiers.{spelled_id}
use Rattle.flash_layout.specs.Layouts.{IsEntry, IsTypedEntry, IsUuid}
use Rattle.rollback_record.specs.RecordPage.{HasSecondSlot}

id_long : (id : Option (List ℕ)) → IfSome id IsUuid → length (optional_id id) ≡ 17
id_long None is = refl
id_long (Some id) is = omega (arith, is)

number_long : (n : ℕ) → length (number_bytes n) ≡ 8
unfolding number_bytes
number_long n = refl

-- ---- a component

module _ (e : Entry) (typed : IsTypedEntry e) (short : length (spelled_id e.identifier) ≤ 64) where
  entry_long : length (entry_bytes e) ≡ 142
  unfolding entry_bytes
  entry_long =
      let spelled = spelled_id e.identifier in
      let zeros : List ℕ = replicate (64 - length spelled) 0 in
      let first = number_bytes e.capacity in
      let second = number_bytes (get_or e.starts 0 0) in
      let third = number_bytes (get_or e.starts 1 0) in
      let vendor = optional_id e.vendor in
      let class = optional_id e.class in
      let device = optional_id e.device in
      omega (
        arith,
        short,
        length-append spelled zeros,
        length-replicate {A = ℕ} (64 - length spelled) 0,
        id_long e.vendor typed.vendor,
        id_long e.class typed.class,
        id_long e.device typed.device,
        number_long e.capacity,
        number_long (get_or e.starts 0 0),
        number_long (get_or e.starts 1 0),
        length-append second third,
        length-append first (second ++ third),
        length-append class device,
        length-append vendor (class ++ device),
        length-append (vendor ++ (class ++ device)) (first ++ (second ++ third)),
        length-append (length spelled ∷ (spelled ++ zeros)) ((vendor ++ (class ++ device)) ++ (first ++ (second ++ third))),
      )

entry_slots : (e : Entry) (rest : List ℕ) → get_or (entry_bytes e ++ rest) 1 0 ≡ e.slots
unfolding entry_bytes
entry_slots e rest = refl

-- ---- all of them

slots_at : (frame : Frame) (size : ℕ) (layout : List Entry) (rest : List ℕ) → All IsTypedEntry layout → All (IsEntry frame size) layout → (i : ℕ) (d : Entry) → i < length layout → get_or (entries_bytes layout ++ rest) (142 * i + 1) 0 ≡ (get_or layout i d).slots
slots_at frame size [] rest typed each i d lt = absurd (omega (arith, lt))
slots_at frame size (e ∷ layout) rest typed each zero d lt = ap (λ (l : List ℕ). get_or l 1 0) (append_assoc (entry_bytes e) (entries_bytes layout) rest) ∙ entry_slots e (entries_bytes layout ++ rest)
slots_at frame size (e ∷ layout) rest typed each (suc i) d lt =
    let long = entry_long e (All-head IsTypedEntry e layout typed) (All-head (IsEntry frame size) e layout each).short in
    let back : 142 * suc i + 1 - 142 ≡ 142 * i + 1 = omega arith in
    ap (λ (l : List ℕ). get_or l (142 * suc i + 1) 0) (append_assoc (entry_bytes e) (entries_bytes layout) rest)
    ∙ get_or-append_right (entry_bytes e) (entries_bytes layout ++ rest) 142 (142 * suc i + 1) 0 long (omega arith)
    ∙ ap (λ (k : ℕ). get_or (entries_bytes layout ++ rest) k 0) back
    ∙ slots_at frame size layout rest (All-tail IsTypedEntry e layout typed) (All-tail (IsEntry frame size) e layout each) i d (omega (arith, lt))

-- ---- the page

module _ (frame : Frame) (size : ℕ) (page : List ℕ) (layout : List Entry) (key : Key) (is : IsConfigPage frame size page layout key) (typed : All IsTypedEntry layout) (room : length key.bytes ≡ 64) where
  count_at : get_or page 3 0 ≡ length layout
  unfolding config_page
  count_at = ap (λ (l : List ℕ). get_or l 3 0) is.is

  slots_in : (i : ℕ) (d : Entry) → i < length layout → get_or page (142 * i + 69) 0 ≡ (get_or layout i d).slots
  unfolding config_page
  slots_in i d lt =
      let front : length (page_front frame layout key) ≡ 68 = omega (arith, room) in
      let back : 142 * i + 69 - 68 ≡ 142 * i + 1 = omega arith in
      ap (λ (l : List ℕ). get_or l (142 * i + 69) 0) is.is
      ∙ get_or-append_right (page_front frame layout key) (padded (142 * most frame) (entries_bytes layout)) 68 (142 * i + 69) 0 front (omega arith)
      ∙ ap (λ (k : ℕ). get_or (padded (142 * most frame) (entries_bytes layout)) k 0) back
      ∙ slots_at frame size layout (replicate (142 * most frame - length (entries_bytes layout)) 0) typed is.allowed.each i d lt

  -- a component of the layout that has two slots has a second one
  pub second_slot : (i : ℕ) (d : Entry) → i < length layout → (get_or layout i d).slots ≡ 2 → HasSecondSlot page i
  second_slot i d lt two = (omega (arith, lt, count_at), slots_in i d lt ∙ two)

  -- and what has a second one is a component of the layout that has two
  pub has_two : (i : ℕ) → HasSecondSlot page i → (i < length layout) × ((d : Entry) → (get_or layout i d).slots ≡ 2)
  has_two i second =
      let inside : i < length layout = omega (arith, second.0, count_at) in
      (inside, λ d. sym (slots_in i d inside) ∙ second.1)
