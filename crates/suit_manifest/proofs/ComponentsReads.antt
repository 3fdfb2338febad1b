-- Reading identifiers agrees with judging them.
use Rattle.std.proofs.Common.{◌≡◌, ℕ, suc, ◌+◌, ◌-◌, cond, eqb, ltb, List, [], ◌++◌, length, Result, Ok, Err, refl, sym, ap, ◌∙◌, append_assoc, arith}
use Rattle.std.proofs.lemmas.List.{append-nil}
use Rattle.det_cbor.specs.Heads.{head_bytes}
use Rattle.det_cbor.specs.DataItem.{DataItem, ArrayOf, DataItems, NoItems, ItemThen, item_count, spell, spell_items, AreValidWithin}
use Rattle.det_cbor.specs.HeadReading.{◌>>=◌}
use Rattle.det_cbor.specs.Position.{Position}
use Rattle.suit_params.specs.declared.refusal.Refusal.{Refusal}
use Rattle.suit_params.specs.declared.refusal.Why.TheVariants.{Shape, TooMany}
use Rattle.suit_params.specs.Refusing.{refused}
use Rattle.suit_params.specs.Judging.{judge_string}
use Rattle.suit_params.specs.HeldLaws.{ReadsAs, content_read, with_rest}
use Rattle.suit_params.specs.HeadLaws.{after}
use Rattle.suit_envelope.proofs.KeyLaws.{inner_read}
use Rattle.suit_manifest.specs.Elements.{judge_all, all_from}
use Rattle.suit_commands.specs.Sequences.{place_after}
use Rattle.suit_manifest.specs.ComponentsJudging.{judge_part, short_enough, judge_parts, judge_identifier, judge_apart, judge_ids, judge_count, judge_components}
use Rattle.suit_manifest.specs.ComponentsReading.{part_at, identifier_at, apart_from, ids_from, counted_ids, components_at}
use Rattle.suit_manifest.proofs.Arrays.{at, behind, array_is, all_read}

-- the content of a byte string
part_read : ReadsAs part_at judge_part
part_read levels place x valid = rw (content_read levels (at place x) x [] valid (sym (append-nil (spell x)))) (by_string (judge_string place x) (after (at place x) (spell x) []))
  where
    by_string : (r : Result Position Refusal) (q : Position) → ((r >>= with_rest q) >>= λ c. Ok c.0.left) ≡ (r >>= λ content. Ok content.left)
    by_string (Ok content) q = refl
    by_string (Err e) q = refl

abbrev read_id : Position → ℕ → Position → Result (List (List ℕ)) Refusal
read_id p n q = all_from part_at n q >>= short_enough p.place (length p.left)

id_read : ReadsAs identifier_at judge_identifier
id_read = array_is read_id judge_parts (λ levels place items valid.
    let x = ArrayOf items in
    let q = behind place x (head_bytes 4 (item_count items)) in
    ap (λ (r : Result (List (List ℕ)) Refusal). r >>= short_enough place (length (spell x))) (all_read part_at judge_part part_read (levels + 1) q items [] valid.2 refl))

-- the identifiers after one
apart_read : (ids : List (List (List ℕ))) (last levels : ℕ) (p : Position) (x : DataItem) (items : DataItems) (rest : List ℕ) → AreValidWithin levels (ItemThen x items) → p.left ≡ spell_items (ItemThen x items) ++ rest
    → apart_from ids (suc last) (item_count items) p ≡ judge_apart ids (suc last) (place_after p.place x) items
apart_read ids last levels p x NoItems rest valid is = refl
apart_read ids last levels p x (ItemThen y others) rest valid is =
    let one : item_count others + 1 ≡ suc (item_count others) = omega arith in
    let more = spell_items (ItemThen y others) ++ rest in
    let whole : p.left ≡ spell x ++ more = is ∙ append_assoc (spell x) (spell_items (ItemThen y others)) rest in
    rw (one, inner_read levels p x more valid.0 whole, apart_read ids (suc last) levels (after p (spell x) more) y others rest valid.1 refl) refl

all_apart_read : (ids : List (List (List ℕ))) (levels : ℕ) (p : Position) (items : DataItems) (rest : List ℕ) → AreValidWithin levels items → p.left ≡ spell_items items ++ rest
    → apart_from ids 1 (item_count items - 1) p ≡ judge_apart ids 0 p.place items
all_apart_read ids levels p NoItems rest valid is = refl
all_apart_read ids levels p (ItemThen x others) rest valid is =
    let one : item_count others + 1 - 1 ≡ item_count others = omega arith in
    rw one (apart_read ids 0 levels p x others rest valid is)

ids_read : (levels : ℕ) (p : Position) (items : DataItems) (rest : List ℕ) → AreValidWithin levels items → p.left ≡ spell_items items ++ rest → ids_from (item_count items) p ≡ judge_ids p.place items
ids_read levels p items rest valid is =
    rw (all_read identifier_at judge_identifier id_read levels p items rest valid is)
    (by_ids (judge_all judge_identifier p.place items) (λ ids. all_apart_read ids levels p items rest valid is))
  where
    by_ids : (r : Result (List (List (List ℕ))) Refusal) → ((ids : List (List (List ℕ))) → apart_from ids 1 (item_count items - 1) p ≡ judge_apart ids 0 p.place items)
        → (r >>= λ ids. apart_from ids 1 (item_count items - 1) p >>= λ _. Ok ids) ≡ (r >>= λ ids. judge_apart ids 0 p.place items >>= λ _. Ok ids)
    by_ids (Ok ids) same = rw (same ids) refl
    by_ids (Err e) same = refl

abbrev read_ids : Position → ℕ → Position → Result (List (List (List ℕ))) Refusal
read_ids p n q = counted_ids p.place n q

pub components_read : ReadsAs components_at judge_components
components_read = array_is read_ids judge_count (λ levels place items valid.
    let q = behind place (ArrayOf items) (head_bytes 4 (item_count items)) in
    ap (λ (r : Result (List (List (List ℕ))) Refusal). cond (eqb (item_count items) 0) (Err (refused place Shape)) (cond (ltb 8 (item_count items)) (Err (refused place (TooMany (item_count items)))) r))
    (ids_read (levels + 1) q items [] valid.2 refl))
