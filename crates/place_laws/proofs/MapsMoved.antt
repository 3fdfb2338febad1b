-- The contents of maps and byte strings move with them.
use Rattle.std.proofs.Common.{◌≡◌, ℕ, ◌+◌, Bool, true, List, [], ◌∷◌, length, Option, Some, None, refl, sym, ap, subst, ◌∙◌}
use Rattle.std.specs.Prelude.{option_map, ◌||◌}
use Rattle.std.specs.List.{AllByRecursion}
use Rattle.det_cbor.specs.DataItem.{DataItem, DataPairs, NoPairs, PairThen, spell}
use Rattle.suit_params.specs.Refusing.{Says, SaysHeld, SaysWhole, content_place}
use Rattle.suit_params.specs.Params.{pairs_place}
use Rattle.suit_envelope.specs.Envelopes.{Entry, entries, has_key, is_number}
use Rattle.suit_manifest.specs.Maps.{HasKeys, IsKeyAmong, SaysUnder, entry_under}
use Rattle.suit_manifest.proofs.RowsAgain.{value_is}

-- at another place the item says something like it
pub record SaysLike {A : Type 0} (says : Says A) (like : A → A → Type 0) (place : ℕ) (x : DataItem) (a : A) : Type 0 where
  pub other : A
  pub says_so : says place x other
  pub alike : like a other

abbrev pub Moves : {A : Type 0} → Says A → (A → A → Type 0) → Type 0
Moves {A} says like = (p q : ℕ) (x : DataItem) (a : A) → says p x a → SaysLike says like q x a

-- ---- byte strings

pub whole_moved : {A : Type 0} (says : Says A) (like : A → A → Type 0) → Moves says like → (p q : ℕ) (bytes : List ℕ) (a : A) → SaysWhole says p bytes a
    → (b : A) × SaysWhole says q bytes b × like a b
whole_moved says like moves p q bytes a said =
    let m = moves p q said.item a said.says_so in
    (m.other, record { item = said.item; spells = said.spells; says_so = m.says_so }, m.alike)

pub held_moved : {A : Type 0} (says : Says A) (like : A → A → Type 0) → Moves says like → Moves (SaysHeld says) like
held_moved says like moves p q x a said =
    let m = whole_moved says like moves (content_place p said.content) (content_place q said.content) said.content a said.holds in
    record { other = m.0; says_so = record { content = said.content; is = said.is; holds = m.1 }; alike = m.2 }

-- ---- entries

entry_of : (o : Option Entry) (x : DataItem) → option_map (λ (e : Entry). e.value) o ≡ Some x → (f : Entry) × (o ≡ Some f) × (x ≡ f.value)
entry_of None x is = absurd cc
entry_of (Some f) x is = (f, refl, cc)

no_entry : (o : Option Entry) → option_map (λ (e : Entry). e.value) o ≡ None → o ≡ None
no_entry None is = refl
no_entry (Some f) is = absurd cc

same_value : (n p q : ℕ) (ps : DataPairs) → option_map (λ (e : Entry). e.value) (entry_under n (entries q ps)) ≡ option_map (λ (e : Entry). e.value) (entry_under n (entries p ps))
same_value n p q ps = sym (value_is n q ps) ∙ value_is n p ps

entry_moved : (n p q : ℕ) (ps : DataPairs) (e : Entry) → entry_under n (entries p ps) ≡ Some e → (f : Entry) × (entry_under n (entries q ps) ≡ Some f) × (e.value ≡ f.value)
entry_moved n p q ps e there =
    entry_of (entry_under n (entries q ps)) e.value (same_value n p q ps ∙ ap (option_map (λ (f : Entry). f.value)) there)

pub absent_moved : (n p q : ℕ) (ps : DataPairs) → entry_under n (entries p ps) ≡ None → entry_under n (entries q ps) ≡ None
absent_moved n p q ps absent = no_entry (entry_under n (entries q ps)) (same_value n p q ps ∙ ap (option_map (λ (f : Entry). f.value)) absent)

pub under_moved : {A : Type 0} (says : Says A) (like : A → A → Type 0) → Moves says like → (n p q : ℕ) (ps : DataPairs) (a : A) → SaysUnder n says (entries p ps) a
    → (b : A) × SaysUnder n says (entries q ps) b × like a b
under_moved says like moves n p q ps a said =
    let f = entry_moved n p q ps said.entry said.there in
    let m = moves said.entry.value_place f.0.value_place said.entry.value a said.says_so in
    (m.other, record { entry = f.0; there = f.1; says_so = subst (λ (x : DataItem). says f.0.value_place x m.other) f.2 m.says_so }, m.alike)

-- of what is said without places
pub under_kept : {A : Type 0} (says : Says A) (a : A) → ((p q : ℕ) (x : DataItem) → says p x a → says q x a) → (n p q : ℕ) (ps : DataPairs) → SaysUnder n says (entries p ps) a
    → SaysUnder n says (entries q ps) a
under_kept says a keeps n p q ps said =
    let f = entry_moved n p q ps said.entry said.there in
    record { entry = f.0; there = f.1; says_so = subst (λ (x : DataItem). says f.0.value_place x a) f.2 (keeps said.entry.value_place f.0.value_place said.entry.value said.says_so) }

-- ---- keys

pub known_moved : (keys : List ℕ) (p q : ℕ) (ps : DataPairs) → AllByRecursion (IsKeyAmong keys) (entries p ps) → AllByRecursion (IsKeyAmong keys) (entries q ps)
known_moved keys p q NoPairs known = tt
known_moved keys p q (PairThen key value ps) known =
    (known.0, known_moved keys (p + length (spell key) + length (spell value)) (q + length (spell key) + length (spell value)) ps known.1)

has_moved : (n p q : ℕ) (ps : DataPairs) → has_key n (entries q ps) ≡ has_key n (entries p ps)
has_moved n p q NoPairs = refl
has_moved n p q (PairThen key value ps) =
    ap (λ (b : Bool). is_number n key || b) (has_moved n (p + length (spell key) + length (spell value)) (q + length (spell key) + length (spell value)) ps)

pub complete_moved : (required : List ℕ) (p q : ℕ) (ps : DataPairs) → AllByRecursion (λ n. has_key n (entries p ps) ≡ true) required → AllByRecursion (λ n. has_key n (entries q ps) ≡ true) required
complete_moved [] p q ps has = tt
complete_moved (n ∷ required) p q ps has = (has_moved n p q ps ∙ has.0, complete_moved required p q ps has.1)

abbrev pub keys_moved : (keys required : List ℕ) (p q : ℕ) (x : DataItem) → HasKeys keys required p x → HasKeys keys required q x
keys_moved keys required p q x has = record {
  pairs = has.pairs;
  is = has.is;
  known = known_moved keys (pairs_place p has.pairs) (pairs_place q has.pairs) has.pairs has.known;
  complete = complete_moved required (pairs_place p has.pairs) (pairs_place q has.pairs) has.pairs has.complete;
}
