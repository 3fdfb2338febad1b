-- Arrays and maps, and items of all other kinds.
use Rattle.std.proofs.Common.{◌≡◌, ℕ, suc, ◌+◌, List, [], ◌++◌, Result, Ok, Err, refl, sym, ◌∙◌, append_assoc, arith}
use Rattle.std.proofs.lemmas.List.{append-nil}
use Rattle.det_cbor.specs.Heads.{head_bytes}
use Rattle.det_cbor.specs.DataItem.{DataItem, ArrayOf, MapOf, DataItems, NoItems, ItemThen, item_count, DataPairs, pair_count, spell, spell_items, IsValidWithin, AreValidWithin}
use Rattle.det_cbor.specs.declared.head.HeadKind.{HeadKind}
use Rattle.det_cbor.specs.declared.head.HeadKind.TheVariants as kinds
use Rattle.det_cbor.specs.HeadReading.{◌>>=◌}
use Rattle.det_cbor.specs.HeadSpelling.{spelled}
use Rattle.det_cbor.specs.ItemOrder.{spell_parts}
use Rattle.det_cbor.specs.Position.{Position}
use Rattle.suit_params.specs.declared.refusal.Refusal.{Refusal}
use Rattle.suit_params.specs.declared.refusal.Why.TheVariants.{Shape}
use Rattle.suit_params.specs.Refusing.{refused}
use Rattle.suit_params.specs.Params.{IsMap}
use Rattle.suit_params.specs.HeldLaws.{ReadsAs}
use Rattle.det_cbor.specs.ItemHeads.{item_kind, item_value, item_head}
use Rattle.suit_params.specs.HeadLaws.{item_head_read, after}
use Rattle.suit_envelope.proofs.KeyLaws.{inner_read}
use Rattle.suit_params.specs.Reading.{kind_after, kind_from, array_from, map_from}
use Rattle.suit_manifest.specs.Components.{IsArray}
use Rattle.suit_manifest.specs.Elements.{judge_all, judge_array, judge_map, all_from}

-- ---- which kind an item is

-- an item of another kind
pub record OtherThan (A Inner : Type 0) (kind : HeadKind) (Is : DataItem → Type 0) (judge : (ℕ → Inner → Result A Refusal) → ℕ → DataItem → Result A Refusal) (x : DataItem) : Type 0 where
  pub other : Is x → ⊥
  pub judged : (inner : ℕ → Inner → Result A Refusal) (place : ℕ) → judge inner place x ≡ Err (refused place Shape)
  pub read : (place : ℕ) (p : Position) → kind_after kind Shape place (item_value x) p (item_kind x) ≡ Err (refused place Shape)

abbrev pub OtherThanArray : Type 0 → DataItem → Type 0
OtherThanArray A = OtherThan A DataItems kinds.Array IsArray judge_array

abbrev pub OtherThanMap : Type 0 → DataItem → Type 0
OtherThanMap A = OtherThan A DataPairs kinds.Map IsMap judge_map

pub by_array : (A : Type 0) (P : DataItem → Type 0) → ((items : DataItems) → P (ArrayOf items)) → ((x : DataItem) → OtherThanArray A x → P x) → (x : DataItem) → P x
by_array A P array other (ArrayOf xs) = array xs
by_array A P array other x = other x (record { other = λ h. h; judged = λ inner place. refl; read = λ place p. refl })

pub by_map : (A : Type 0) (P : DataItem → Type 0) → ((pairs : DataPairs) → P (MapOf pairs)) → ((x : DataItem) → OtherThanMap A x → P x) → (x : DataItem) → P x
by_map A P map other (MapOf ps) = map ps
by_map A P map other x = other x (record { other = λ h. h; judged = λ inner place. refl; read = λ place p. refl })

-- ---- reading

-- the position of an item on its own
abbrev pub at : ℕ → DataItem → Position
at place x = record { left = spell x; place = place }

-- the position after the head of an item
abbrev pub behind : ℕ → DataItem → List ℕ → Position
behind place x head = after (at place x) head (spell_parts x ++ [])

-- if the inside of items of this kind is read as it is judged, so is each item
abbrev ReadsKind : (A Inner : Type 0) (make : Inner → DataItem) (major : ℕ) (count : Inner → ℕ) (from : Position → Result (ℕ × Position) Refusal) (judge : (ℕ → Inner → Result A Refusal) → ℕ → DataItem → Result A Refusal) → Type 0
ReadsKind A Inner make major count from judge =
    (read : Position → ℕ → Position → Result A Refusal) (inner : ℕ → Inner → Result A Refusal)
    → ((levels place : ℕ) (inside : Inner) → IsValidWithin levels (make inside) → read (at place (make inside)) (count inside) (behind place (make inside) (head_bytes major (count inside))) ≡ inner place inside)
    → ReadsAs (λ p. from p >>= λ h. read p h.0 h.1) (judge inner)

kind_is : {A Inner : Type 0} (kind : HeadKind) (Is : DataItem → Type 0) (make : Inner → DataItem) (major : ℕ) (count : Inner → ℕ) (from : Position → Result (ℕ × Position) Refusal) (judge : (ℕ → Inner → Result A Refusal) → ℕ → DataItem → Result A Refusal)
    → ((P : DataItem → Type 0) → ((inside : Inner) → P (make inside)) → ((x : DataItem) → OtherThan A Inner kind Is judge x → P x) → (x : DataItem) → P x)
    → ((p : Position) → from p ≡ kind_from kind Shape p) → ((inside : Inner) → spelled (item_head (make inside)) ≡ head_bytes major (count inside))
    → ((place : ℕ) (p : Position) (inside : Inner) → kind_after kind Shape place (item_value (make inside)) p (item_kind (make inside)) ≡ Ok (count inside, p))
    → ((inner : ℕ → Inner → Result A Refusal) (place : ℕ) (inside : Inner) → judge inner place (make inside) ≡ inner place inside) → ReadsKind A Inner make major count from judge
kind_is {A} {Inner} kind Is make major count from judge by from_is head found judged read inner law levels place x valid =
    by (λ (y : DataItem). IsValidWithin levels y → (from (at place y) >>= λ h. read (at place y) h.0 h.1) ≡ judge inner place y)
    (λ inside v. rw (from_is (at place (make inside)), item_head_read levels (at place (make inside)) (make inside) [] v (sym (append-nil (spell (make inside)))), found place (after (at place (make inside)) _ _) inside, head inside, judged inner place inside)
    (law levels place inside v))
    (λ y o v. rw (from_is (at place y), item_head_read levels (at place y) y [] v (sym (append-nil (spell y))), o.read place (after (at place y) _ _), o.judged inner place) refl)
    x valid

pub array_is : {A : Type 0} → ReadsKind A DataItems ArrayOf 4 item_count array_from judge_array
unfolding array_from
array_is {A} = kind_is kinds.Array IsArray ArrayOf 4 item_count array_from judge_array (by_array A) (λ p. refl) (λ items. refl) (λ place p items. refl) (λ inner place items. refl)

pub map_is : {A : Type 0} → ReadsKind A DataPairs MapOf 5 pair_count map_from judge_map
unfolding map_from
map_is {A} = kind_is kinds.Map IsMap MapOf 5 pair_count map_from judge_map (by_map A) (λ p. refl) (λ pairs. refl) (λ place p pairs. refl) (λ inner place pairs. refl)

-- reading elements agrees with judging them
pub all_read : {A : Type 0} (read : Position → Result A Refusal) (judge : ℕ → DataItem → Result A Refusal) → ReadsAs read judge → (levels : ℕ) (p : Position) (items : DataItems) (rest : List ℕ)
    → AreValidWithin levels items → p.left ≡ spell_items items ++ rest → all_from read (item_count items) p ≡ judge_all judge p.place items
all_read read judge law levels p NoItems rest valid is = refl
all_read read judge law levels p (ItemThen x others) rest valid is =
    let one : item_count others + 1 ≡ suc (item_count others) = omega arith in
    let more = spell_items others ++ rest in
    let whole : p.left ≡ spell x ++ more = is ∙ append_assoc (spell x) (spell_items others) rest in
    rw (one, inner_read levels p x more valid.0 whole, law levels p.place x valid.0, all_read read judge law levels (after p (spell x) more) others rest valid.1 refl) refl
