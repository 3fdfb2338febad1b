-- What an offer or a record needs besides is there: places, slots and payloads.
use Rattle.std.proofs.Common.{◌≡◌, ◌⊎◌, inl, inr, ◌<◌, ◌≤◌, ◌-◌, ℕ, List, [], length, get_or, map, Option, Some, None, refl, sym, ◌∙◌, ap, IsTrue, arith}
use Rattle.std.specs.List.{range_with_len}
use Rattle.std.proofs.lemmas.List.{get_or_default, get_or_past, length-replicate}
use Rattle.std.proofs.lemmas.List.FromFn.{length-map-range_with_len, get_or-map-range_with_len}
use Rattle.suit_commands.specs.Tree.{PlanTree}
use Rattle.suit_commands.specs.Targets.{IsTarget}
use Rattle.suit_envelope.specs.Envelopes.{EnvelopeSays, map_entries}
use Rattle.suit_envelope.specs.Payloads.{HasPayloads, integrated_payloads}
use Rattle.suit_envelope.specs.Said.{EnvelopeOf}
use Rattle.flash_layout.specs.declared.frame.Frame.{Frame}
use Rattle.flash_layout.specs.declared.layout.Entry.{Entry}
use Rattle.flash_layout.specs.declared.place.Places.{Places}
use Rattle.flash_layout.specs.declared.slot.Record.{Record}
use Rattle.flash_layout.specs.Frames.{head_of}
use Rattle.flash_layout.specs.Placement.{ArePlaces}
use Rattle.rollback_record.specs.HeadRecord.{RecordOf}
use Rattle.step_machine.specs.declared.spot.Standing.{Standing}
use Rattle.step_machine.specs.declared.world.SlotChoice.{SlotChoice}
use Rattle.step_machine.specs.InUse.{AreInUse, slot_in_use}
use Rattle.step_machine.specs.Worlds.{StandAs, standing_of}
use Rattle.step_machine.proofs.Fitting.{few_entries}
use Rattle.invoke_proc.proofs.Placed.{placed}
use Rattle.update_proc.specs.Choices.{AreChosen, HasOther, IsWritten, active_slots}
use Rattle.suit_cli.specs.Outside.{Outside}
use Rattle.suit_cli.proofs.AcceptedFacts.{facts}
use Rattle.completeness.specs.Boots.{Activates, Records}
use Rattle.completeness.specs.Updates.{Offers, Sets, procedure_of}
use Rattle.completeness.proofs.Deciding.{Decided, below, both, is_target, reaches, same}
use Rattle.completeness.proofs.SamePlaces.{no_entry}

-- ---- slots of an update

written : (tree : PlanTree) (places : Places) (i : ℕ) → Decided (IsWritten tree places i)
written tree places i =
    elim (below (λ k. IsTarget tree k × (get_or places.layout_index k 0 ≡ i)) (λ k. both (is_target tree k) (same (get_or places.layout_index k 0) i)) places.count) [
      | inl h ↦ inl (record { component = h.0; few = h.1; target = h.2.0; there = h.2.1 })
      | inr never ↦ inr (λ w. never (w.component, w.few, (w.target, w.there)))
    ]

has_other : (layout : List Entry) (i : ℕ) → Decided (HasOther layout i)
has_other layout i = elim (reaches i (length layout)) [
  | inr past ↦ inr (λ h. omega (arith, past, h.0))
  | inl inside ↦ elim (same (get_or layout i no_entry).slots 2) [
    | inl two ↦ inl (inside, λ e. ap (λ (x : Entry). x.slots) (get_or_default layout i e no_entry inside) ∙ two)
    | inr other ↦ inr (λ h. other (h.1 no_entry))
  ]
]

-- the other slot, or the one in use
pick : {P : Type 0} → Decided P → ℕ → ℕ
pick (inl p) number = 1 - number
pick (inr denied) number = number

pick_other : {P : Type 0} (d : Decided P) (number : ℕ) → P → pick d number ≡ 1 - number
unfolding pick
pick_other (inl p) number is = refl
pick_other (inr denied) number is = absurd (denied is)

pick_same : {P : Type 0} (d : Decided P) (number : ℕ) → (P → ⊥) → pick d number ≡ number
unfolding pick
pick_same (inl p) number never = absurd (never p)
pick_same (inr denied) number never = refl

pick_either : {P : Type 0} (d : Decided P) (number : ℕ) → (pick d number ≡ number) ⊎ (P × (pick d number ≡ 1 - number))
unfolding pick
pick_either (inl p) number = inr (p, refl)
pick_either (inr denied) number = inl refl

module _ (layout : List Entry) (places : Places) (tree : PlanTree) (active : List ℕ) (few : length layout ≤ 32) (long : length active ≡ 32) where
  abbrev decided : (i : ℕ) → Decided (IsWritten tree places i × HasOther layout i)
  decided i = both (written tree places i) (has_other layout i)

  abbrev number : ℕ → ℕ
  number i = pick (decided i) (get_or active i 0)

  abbrev numbers : List ℕ
  numbers = map number (range_with_len 0 32)

  at : (i : ℕ) → i < 32 → get_or numbers i 0 ≡ number i
  at i lt = get_or-map-range_with_len number 0 32 i i 0 lt (omega arith)

  past : (i : ℕ) → 32 ≤ i → get_or numbers i 0 ≡ get_or active i 0
  past i le = get_or_past numbers i 0 (omega (arith, length-map-range_with_len number 0 32, le)) ∙ sym (get_or_past active i 0 (omega (arith, long, le)))

  pub chosen : (ns : List ℕ) × AreChosen layout places tree active ns
  chosen = (
    numbers,
    record {
      size = length-map-range_with_len number 0 32;
      other = λ i w o. at i (omega (arith, few, o.0)) ∙ pick_other (decided i) (get_or active i 0) (w, o);
      same = λ i never. elim (reaches i 32) [
        | inl lt ↦ at i lt ∙ pick_same (decided i) (get_or active i 0) never
        | inr le ↦ past i le
      ];
      either = λ i. elim (reaches i 32) [
        | inr le ↦ inl (past i le)
        | inl lt ↦ elim (pick_either (decided i) (get_or active i 0)) [
          | inl e ↦ inl (at i lt ∙ e)
          | inr p ↦ inr (p.0.1, at i lt ∙ p.1)
        ]
      ];
    },
  )

-- ---- slots of a boot

-- the number inside, and 0 behind
inside_or : {In Past : Type 0} → In ⊎ Past → ℕ → ℕ
inside_or (inl is) number = number
inside_or (inr past) number = 0

is_inside : {i n : ℕ} (r : (i < n) ⊎ (n ≤ i)) (number : ℕ) → i < n → inside_or r number ≡ number
unfolding inside_or
is_inside (inl is) number lt = refl
is_inside (inr past) number lt = absurd (omega (arith, past, lt))

is_past : {i n : ℕ} (r : (i < n) ⊎ (n ≤ i)) (number : ℕ) → n ≤ i → inside_or r number ≡ 0
unfolding inside_or
is_past (inl is) number le = absurd (omega (arith, is, le))
is_past (inr past) number le = refl

module _ (layout : List Entry) (active : List ℕ) (few : length layout ≤ 32) where
  abbrev used : ℕ → ℕ
  used i = inside_or (reaches i (length layout)) (slot_in_use (get_or layout i no_entry) (get_or active i 0))

  abbrev used_numbers : List ℕ
  used_numbers = map used (range_with_len 0 32)

  used_at : (i : ℕ) → i < 32 → get_or used_numbers i 0 ≡ used i
  used_at i lt = get_or-map-range_with_len used 0 32 i i 0 lt (omega arith)

  pub in_use : (ns : List ℕ) × AreInUse layout active ns
  in_use = (
    used_numbers,
    record {
      size = length-map-range_with_len used 0 32;
      each = λ i d lt. used_at i (omega (arith, few, lt)) ∙ is_inside (reaches i (length layout)) _ lt
          ∙ ap (λ (e : Entry). slot_in_use e (get_or active i 0)) (get_or_default layout i no_entry d lt);
      rest = λ i le. elim (reaches i 32) [
        | inl lt ↦ used_at i lt ∙ is_past (reaches i (length layout)) _ le
        | inr beyond ↦ get_or_past used_numbers i 0 (omega (arith, length-map-range_with_len used 0 32, beyond))
      ];
    },
  )

-- ---- how components stand

module _ (layout : List Entry) (ids : List (List (List ℕ))) (places : Places) (are : ArePlaces layout ids places) (slots : SlotChoice) where
  abbrev at_index : ℕ → ℕ
  at_index k = get_or places.layout_index k 0

  abbrev standing : ℕ → Standing
  standing k = standing_of (get_or layout (at_index k) no_entry) k (at_index k) (get_or slots.number (at_index k) 0)

  inside : (k : ℕ) → k < places.count → at_index k < length layout
  inside k lt = (are.each k [] (omega (arith, lt, are.count))).0

  pub standings : (list : List Standing) × StandAs layout places slots list
  standings = (
    map standing (range_with_len 0 places.count),
    record {
      count = length-map-range_with_len standing 0 places.count;
      each = λ k d e lt. get_or-map-range_with_len standing 0 places.count k k d lt (omega arith)
          ∙ ap (λ (x : Entry). standing_of x k (at_index k) (get_or slots.number (at_index k) 0)) (get_or_default layout (at_index k) no_entry e (inside k lt));
    },
  )

-- ---- the laws

payloads : (bytes : List ℕ) (said : EnvelopeSays) (envelope : EnvelopeOf bytes said) → HasPayloads bytes (integrated_payloads (map_entries envelope.says_so.map))
payloads bytes said envelope = record { said = said; envelope = envelope; are = refl }

held_long : (frame : Frame) (image : List ℕ) (held : Option Record) → RecordOf frame (head_of frame image) held → length (active_slots held) ≡ 32
held_long frame image None recorded = length-replicate {A = ℕ} 32 0
held_long frame image (Some r) recorded = recorded.counts.page.typed.active

pub can_set : (name : List ℕ) (before : Outside) → IsTrue before.flash.told → (o : Offers name before) → Sets o.layout o.bytes o.accepted o.held
can_set name before told o =
    let few = few_entries o.frame before.flash.size o.layout (o.configured told).page.allowed in
    let m = facts o.frame o.layout o.key o.bytes o.accepted o.is_accepted in
    let c = chosen o.layout o.accepted.places (procedure_of o.accepted) (active_slots o.held) few (held_long o.frame before.flash.reads o.held o.recorded) in
    let s = standings o.layout o.accepted.manifest.components o.accepted.places m.placed (record { number = c.0 }) in
    record { numbers = c.0; chosen = c.1; standings = s.0; stand = s.1; payloads = _; has = payloads o.bytes o.accepted.said m.envelope }

pub can_activate : (before : Outside) → IsTrue before.flash.told → (r : Records before) → Activates r.layout r.installed r.is.said
can_activate before told r =
    let few = few_entries r.frame before.flash.size r.layout (r.configured told).page.allowed in
    let p = placed r.layout r.is.said.components r.is.components in
    let u = in_use r.layout r.installed.active few in
    let s = standings r.layout r.is.said.components p.0 p.1 (record { number = u.0 }) in
    record { standings = s.0; stand = record { places = p.0; placed = p.1; slots = record { number = u.0 }; chosen = u.1; stand = s.1 } }
