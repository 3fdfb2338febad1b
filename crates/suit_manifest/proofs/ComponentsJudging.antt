-- Judging identifiers agrees with the grammar and the refusals.
use Rattle.std.proofs.Common.{◌≡◌, ◌≢◌, ℕ, ◌+◌, ◌-◌, ◌<◌, ◌≤◌, Bool, true, false, cond, eqb, ltb, List, [], ◌∷◌, length, Result, Ok, Err, refl, sym, ap, subst, ◌∙◌, inl, inr, arith}
use Rattle.std.specs.List.{AllByRecursion}
use Rattle.std.proofs.lemmas.Bool.{eqb-true, eqb-false, ne_eqb, lt-ltb, le-ltb, ltb-true, ltb-false}
use Rattle.det_cbor.specs.DataItem.{DataItem, ByteString, ArrayOf, DataItems, NoItems, ItemThen, item_count, spell, IsValidWithin}
use Rattle.det_cbor.specs.ResultLaws.{chosen, bind_ok, bind_err, same_ok, same_err}
use Rattle.suit_params.specs.declared.refusal.Refusal.{Refusal}
use Rattle.suit_params.specs.declared.refusal.Why.TheVariants.{Shape, TooMany, LongIdentifier, TwoAlike}
use Rattle.suit_params.specs.Refusing.{refused, IsByteString}
use Rattle.suit_params.specs.HeldLaws.{by_string}
use Rattle.suit_params.specs.JudgingLaws.{Judges}
use Rattle.suit_commands.specs.Sequences.{elements_place, place_after}
use Rattle.suit_manifest.specs.Components.{string_items, identifier_item, identifier_items, IsShort, AreApart, IsComponents, IsArray, element_place, RefusesParts, NoPart, LaterPart, RefusesIdentifier, NoIdentifier, BadPart, TooLong, RefusesIdentifiers, BadIdentifier, LaterIdentifier, RefusesComponents, NoArray, NoComponents, ManyComponents, BadComponents, AlikeComponents}
use Rattle.suit_manifest.specs.Elements.{judge_all}
use Rattle.suit_manifest.specs.ComponentsJudging.{judge_part, short_enough, judge_parts, judge_identifier, judge_apart, judge_ids, judge_count, judge_components}
use Rattle.suit_manifest.proofs.Arrays.{by_array}
use Rattle.suit_manifest.proofs.Likeness.{apart_none, none_apart, alike_found, found_alike, apart_ok, apart_again, apart_err, apart_refused}

-- ---- byte strings of an identifier

part_ok : (place : ℕ) (x : DataItem) (a : List ℕ) → judge_part place x ≡ Ok a → x ≡ ByteString a
part_ok place x a e =
    by_string (λ (y : DataItem). judge_part place y ≡ Ok a → y ≡ ByteString a)
    (λ bytes f. ap ByteString (same_ok bytes a f))
    (λ y o f. let is : judge_part place y ≡ Err (refused place Shape) = rw (o.judged place) refl in absurd cc)
    x e

part_err : (place : ℕ) (x : DataItem) (r : Refusal) → judge_part place x ≡ Err r → (IsByteString x → ⊥) × (refused place Shape ≡ r)
part_err place x r e =
    by_string (λ (y : DataItem). judge_part place y ≡ Err r → (IsByteString y → ⊥) × (refused place Shape ≡ r))
    (λ bytes f. absurd cc)
    (λ y o f. let is : judge_part place y ≡ Err (refused place Shape) = rw (o.judged place) refl in (o.other, same_err _ r (sym is ∙ f)))
    x e

part_other : (place : ℕ) (x : DataItem) → (IsByteString x → ⊥) → judge_part place x ≡ Err (refused place Shape)
part_other place x other = by_string (λ (y : DataItem). (IsByteString y → ⊥) → judge_part place y ≡ Err (refused place Shape)) (λ bytes f. absurd (f tt)) (λ y o f. rw (o.judged place) refl) x other

parts_ok : (place : ℕ) (items : DataItems) (parts : List (List ℕ)) → judge_all judge_part place items ≡ Ok parts → items ≡ string_items parts
parts_ok place NoItems parts e = ap string_items (same_ok [] parts e)
parts_ok place (ItemThen x others) parts e =
    bind_ok (judge_part place x) _ parts e (λ a a-is f. bind_ok (judge_all judge_part (place_after place x) others) _ parts f (λ rest rest-is g.
    ap (λ (y : DataItem). ItemThen y others) (part_ok place x a a-is) ∙ ap (ItemThen (ByteString a)) (parts_ok (place_after place x) others rest rest-is) ∙ ap string_items (same_ok (a ∷ rest) parts g)))

parts_again : (place : ℕ) (parts : List (List ℕ)) → judge_all judge_part place (string_items parts) ≡ Ok parts
parts_again place [] = refl
parts_again place (a ∷ rest) = rw (parts_again (place_after place (ByteString a)) rest) refl

parts_err : (place : ℕ) (items : DataItems) (r : Refusal) → judge_all judge_part place items ≡ Err r → RefusesParts place items r
parts_err place NoItems r e = absurd cc
parts_err place (ItemThen x others) r e =
    bind_err (judge_part place x) _ r e
    (λ f. let other = part_err place x r f in subst (RefusesParts place (ItemThen x others)) other.1 (NoPart place x others other.0))
    (λ a a-is f. bind_err (judge_all judge_part (place_after place x) others) _ r f
    (λ g. later a (part_ok place x a a-is) (parts_err (place_after place x) others r g))
    (λ rest rest-is g. absurd cc))
  where
    later : (a : List ℕ) → x ≡ ByteString a → RefusesParts (place_after place x) others r → RefusesParts place (ItemThen x others) r
    later a is bad = subst (λ (y : DataItem). RefusesParts (place_after place y) others r → RefusesParts place (ItemThen y others) r) (sym is) (λ b. LaterPart place a others r b) bad

parts_refused : (place : ℕ) (items : DataItems) (r : Refusal) → RefusesParts place items r → judge_all judge_part place items ≡ Err r
parts_refused place items r (NoPart at x others other) = rw (part_other place x other) refl
parts_refused place items r (LaterPart at part others s bad) = rw (parts_refused (place_after place (ByteString part)) others r bad) refl

-- ---- identifiers

size_ok : (place size : ℕ) (id found : List (List ℕ)) → short_enough place size id ≡ Ok found → (id ≡ found) × (size ≤ 64)
size_ok place size id found e =
    elim (chosen {A = Result (List (List ℕ)) Refusal} (ltb 64 size) (Err (refused place LongIdentifier)) (Ok id) (Ok found) e) [
      | inl (long, f) ↦ absurd cc
      | inr (short, f) ↦ (same_ok id found f, omega (arith, ltb-false 64 size short))
    ]

size_err : (place size : ℕ) (id : List (List ℕ)) (r : Refusal) → short_enough place size id ≡ Err r → (64 < size) × (refused place LongIdentifier ≡ r)
size_err place size id r e =
    elim (chosen {A = Result (List (List ℕ)) Refusal} (ltb 64 size) (Err (refused place LongIdentifier)) (Ok id) (Err r) e) [
      | inl (long, f) ↦ (ltb-true 64 size long, same_err _ r f)
      | inr (short, f) ↦ absurd cc
    ]

size_again : (place size : ℕ) (id : List (List ℕ)) → size ≤ 64 → short_enough place size id ≡ Ok id
size_again place size id le = rw (le-ltb 64 size le) refl

size_long : (place size : ℕ) (id : List (List ℕ)) → (size ≤ 64 → ⊥) → short_enough place size id ≡ Err (refused place LongIdentifier)
size_long place size id long = by_test (ltb 64 size) refl
  where
    by_test : (t : Bool) → ltb 64 size ≡ t → cond {A = Result (List (List ℕ)) Refusal} t (Err (refused place LongIdentifier)) (Ok id) ≡ Err (refused place LongIdentifier)
    by_test true is = refl
    by_test false is = absurd (long (omega (arith, ltb-false 64 size is)))

id_ok : (place : ℕ) (x : DataItem) (id : List (List ℕ)) → judge_identifier place x ≡ Ok id → (x ≡ identifier_item id) × IsShort id
id_ok place x id e =
    by_array (List (List ℕ)) (λ (y : DataItem). judge_identifier place y ≡ Ok id → (y ≡ identifier_item id) × IsShort id)
    (λ items f. bind_ok (judge_all judge_part (elements_place place items) items) _ id f (λ parts parts-is g.
    let size = size_ok place (length (spell (ArrayOf items))) parts id g in
    let is : items ≡ string_items id = parts_ok (elements_place place items) items parts parts-is ∙ ap string_items size.0 in
    (ap ArrayOf is, subst (λ (xs : DataItems). length (spell (ArrayOf xs)) ≤ 64) is size.1)))
    (λ y o f. let never = sym (o.judged judge_parts place) ∙ f in absurd cc)
    x e

id_again : (place : ℕ) (id : List (List ℕ)) → IsShort id → judge_identifier place (identifier_item id) ≡ Ok id
id_again place id short = rw (parts_again (elements_place place (string_items id)) id) (size_again place (length (spell (identifier_item id))) id short)

id_err : (place : ℕ) (x : DataItem) (r : Refusal) → judge_identifier place x ≡ Err r → RefusesIdentifier place x r
id_err place x r e =
    by_array (List (List ℕ)) (λ (y : DataItem). judge_identifier place y ≡ Err r → RefusesIdentifier place y r)
    (λ items f. bind_err (judge_all judge_part (elements_place place items) items) _ r f
    (λ g. BadPart items r (parts_err (elements_place place items) items r g))
    (λ parts parts-is g.
    let size = size_err place (length (spell (ArrayOf items))) parts r g in
    too_long items parts (parts_ok (elements_place place items) items parts parts-is) size.0 size.1))
    (λ y o f. subst (RefusesIdentifier place y) (same_err _ r (sym (o.judged judge_parts place) ∙ f)) (NoIdentifier y o.other))
    x e
  where
    too_long : (items : DataItems) (parts : List (List ℕ)) → items ≡ string_items parts → 64 < length (spell (ArrayOf items)) → refused place LongIdentifier ≡ r → RefusesIdentifier place (ArrayOf items) r
    too_long items parts is long why =
        subst (λ (xs : DataItems). 64 < length (spell (ArrayOf xs)) → RefusesIdentifier place (ArrayOf xs) r) (sym is)
        (λ l. subst (RefusesIdentifier place (identifier_item parts)) why (TooLong parts (λ short. absurd (omega (arith, l, short)))))
        long

id_refused : (place : ℕ) (x : DataItem) (r : Refusal) → RefusesIdentifier place x r → judge_identifier place x ≡ Err r
id_refused place x r (NoIdentifier y other) =
    by_array (List (List ℕ)) (λ (z : DataItem). (IsArray z → ⊥) → judge_identifier place z ≡ Err (refused place Shape)) (λ items f. absurd (f tt)) (λ z o f. o.judged judge_parts place) y other
id_refused place x r (BadPart items s bad) = rw (parts_refused (elements_place place items) items s bad) refl
id_refused place x r (TooLong id long) = rw (parts_again (elements_place place (string_items id)) id) (size_long place (length (spell (identifier_item id))) id long)

-- ---- one identifier after another

ids_ok : (place : ℕ) (items : DataItems) (ids : List (List (List ℕ))) → judge_all judge_identifier place items ≡ Ok ids → (items ≡ identifier_items ids) × AllByRecursion IsShort ids
ids_ok place NoItems ids e = subst (λ (l : List (List (List ℕ))). (NoItems ≡ identifier_items l) × AllByRecursion IsShort l) (same_ok [] ids e) (refl, tt)
ids_ok place (ItemThen x others) ids e =
    bind_ok (judge_identifier place x) _ ids e (λ id id-is f. bind_ok (judge_all judge_identifier (place_after place x) others) _ ids f (λ rest rest-is g.
    let first = id_ok place x id id-is in
    let more = ids_ok (place_after place x) others rest rest-is in
    let is : ItemThen x others ≡ identifier_items (id ∷ rest) = ap (λ (y : DataItem). ItemThen y others) first.0 ∙ ap (ItemThen (identifier_item id)) more.0 in
    subst (λ (l : List (List (List ℕ))). (ItemThen x others ≡ identifier_items l) × AllByRecursion IsShort l) (same_ok (id ∷ rest) ids g) (is, (first.1, more.1))))

ids_again : (place : ℕ) (ids : List (List (List ℕ))) → AllByRecursion IsShort ids → judge_all judge_identifier place (identifier_items ids) ≡ Ok ids
ids_again place [] short = refl
ids_again place (id ∷ ids) short = rw (id_again place id short.0, ids_again (place_after place (identifier_item id)) ids short.1) refl

ids_err : (place : ℕ) (items : DataItems) (r : Refusal) → judge_all judge_identifier place items ≡ Err r → RefusesIdentifiers place items r
ids_err place NoItems r e = absurd cc
ids_err place (ItemThen x others) r e =
    bind_err (judge_identifier place x) _ r e
    (λ f. BadIdentifier place x others r (id_err place x r f))
    (λ id id-is f. bind_err (judge_all judge_identifier (place_after place x) others) _ r f
    (λ g. let first = id_ok place x id id-is in later id first.0 first.1 (ids_err (place_after place x) others r g))
    (λ rest rest-is g. absurd cc))
  where
    later : (id : List (List ℕ)) → x ≡ identifier_item id → IsShort id → RefusesIdentifiers (place_after place x) others r → RefusesIdentifiers place (ItemThen x others) r
    later id is short bad =
        subst (λ (y : DataItem). RefusesIdentifiers (place_after place y) others r → RefusesIdentifiers place (ItemThen y others) r) (sym is) (λ b. LaterIdentifier place id others r short b) bad

ids_refused : (place : ℕ) (items : DataItems) (r : Refusal) → RefusesIdentifiers place items r → judge_all judge_identifier place items ≡ Err r
ids_refused place items r (BadIdentifier at x others s bad) = rw (id_refused place x r bad) refl
ids_refused place items r (LaterIdentifier at id others s short bad) = rw (id_again place id short, ids_refused (place_after place (identifier_item id)) others r bad) refl

-- ---- the array

counted : (ids : List (List (List ℕ))) → item_count (identifier_items ids) ≡ length ids
counted [] = refl
counted (id ∷ ids) = let rest = counted ids in omega (arith, rest)

no_items : (items : DataItems) → item_count items ≡ 0 → items ≡ NoItems
no_items NoItems none = refl
no_items (ItemThen x others) none = absurd (omega arith)

abbrev Ids : Type 0
Ids = Result (List (List (List ℕ))) Refusal

-- which branches the tests on the count took
by_count : {P : Type 0} (place : ℕ) (items : DataItems) (z : Ids) → judge_count place items ≡ z
    → (1 ≤ item_count items → item_count items ≤ 8 → judge_ids (elements_place place items) items ≡ z → P)
    → (items ≡ NoItems → Err (refused place Shape) ≡ z → P)
    → (8 < item_count items → Err (refused place (TooMany (item_count items))) ≡ z → P) → P
by_count place items z e good none many =
    elim (chosen {A = Ids} (eqb (item_count items) 0) (Err (refused place Shape)) _ z e) [
      | inl (empty, f) ↦ none (no_items items (eqb-true _ _ empty)) f
      | inr (some, f) ↦ elim (chosen {A = Ids} (ltb 8 (item_count items)) (Err (refused place (TooMany (item_count items)))) (judge_ids (elements_place place items) items) z f) [
        | inl (above, g) ↦ many (ltb-true 8 (item_count items) above) g
        | inr (few, g) ↦ let not_zero : item_count items ≢ 0 = eqb-false _ _ some in good (omega (arith, not_zero)) (omega (arith, ltb-false 8 (item_count items) few)) g
      ]
    ]

array_ok : (place : ℕ) (items : DataItems) (ids : List (List (List ℕ))) → judge_count place items ≡ Ok ids → IsComponents place (ArrayOf items) ids
array_ok place items ids e =
    by_count place items (Ok ids) e
    (λ some few f. bind_ok (judge_all judge_identifier (elements_place place items) items) _ ids f (λ found found-is g. bind_ok (judge_apart found 0 (elements_place place items) items) _ ids g (λ done done-is h.
    let so = ids_ok (elements_place place items) items found found-is in
    let long : item_count items ≡ length found = ap item_count so.0 ∙ counted found in
    let apart : AreApart found = none_apart found (λ l lt. apart_ok found 0 (elements_place place items) items done-is l (omega arith) (omega (arith, lt, long))) in
    subst (IsComponents place (ArrayOf items)) (same_ok found ids h) (record { is = ap ArrayOf so.0; some = omega (arith, some, long); few = omega (arith, few, long); short = so.1; apart = apart }))))
    (λ none f. absurd cc)
    (λ many f. absurd cc)

components_ok : (levels place : ℕ) (x : DataItem) (ids : List (List (List ℕ))) → IsValidWithin levels x → judge_components place x ≡ Ok ids → IsComponents place x ids
components_ok levels place x ids valid e =
    by_array (List (List (List ℕ))) (λ (y : DataItem). judge_components place y ≡ Ok ids → IsComponents place y ids)
    (λ items f. array_ok place items ids f)
    (λ y o f. let never = sym (o.judged judge_count place) ∙ f in absurd cc)
    x e

-- an array with an allowed number of elements
count_judged : (place : ℕ) (items : DataItems) → 1 ≤ item_count items → item_count items ≤ 8 → judge_count place items ≡ judge_ids (elements_place place items) items
count_judged place items some few =
    let not_zero : eqb (item_count items) 0 ≡ false = ne_eqb _ _ (λ none. absurd (omega (arith, some, none))) in
    let not_many : ltb 8 (item_count items) ≡ false = le-ltb 8 (item_count items) few in
    rw (not_zero, not_many) refl

components_again : (place : ℕ) (x : DataItem) (ids : List (List (List ℕ))) → IsComponents place x ids → judge_components place x ≡ Ok ids
components_again place x ids so =
    let items = identifier_items ids in
    let from = elements_place place items in
    let long = counted ids in
    let apart = apart_again ids 0 from items (λ l at lt. apart_none ids so.apart l (omega (arith, lt, long))) in
    let judged : judge_ids from items ≡ Ok ids = rw (ids_again from ids so.short, apart) refl in
    ap (judge_components place) so.is ∙ count_judged place items (omega (arith, so.some, long)) (omega (arith, so.few, long)) ∙ judged

-- identifiers that were judged one by one, two of which are equal
alike : (place : ℕ) (items : DataItems) (ids : List (List (List ℕ))) (r : Refusal) → items ≡ identifier_items ids → item_count items ≤ 8 → AllByRecursion IsShort ids
    → judge_apart ids 0 (elements_place place items) items ≡ Err r → RefusesComponents place (ArrayOf items) r
alike place items ids r is few short e =
    subst (λ (xs : DataItems). item_count xs ≤ 8 → judge_apart ids 0 (elements_place place xs) xs ≡ Err r → RefusesComponents place (ArrayOf xs) r) (sym is)
    (λ le f.
    let xs = identifier_items ids in
    let long = counted ids in
    let two = apart_err ids 0 (elements_place place xs) xs r f in
    let all : two.second - 0 ≡ two.second = omega arith in
    let why : r ≡ refused (element_place (elements_place place xs) xs two.second) (TwoAlike two.first two.second) = two.is ∙ ap (λ (k : ℕ). refused (element_place (elements_place place xs) xs k) (TwoAlike two.first two.second)) all in
    subst (RefusesComponents place (ArrayOf xs)) (sym why) (AlikeComponents ids two.first two.second (omega (arith, le, long)) short (found_alike ids two.first two.second (omega (arith, two.below, long)) two.found (λ m lt. two.none m (omega arith) lt))))
    few e

array_err : (place : ℕ) (items : DataItems) (r : Refusal) → judge_count place items ≡ Err r → RefusesComponents place (ArrayOf items) r
array_err place items r e =
    by_count place items (Err r) e
    (λ some few f. bind_err (judge_all judge_identifier (elements_place place items) items) _ r f
    (λ g. BadComponents items r few (ids_err (elements_place place items) items r g))
    (λ ids ids-is g. bind_err (judge_apart ids 0 (elements_place place items) items) _ r g
    (λ h. let so = ids_ok (elements_place place items) items ids ids-is in alike place items ids r so.0 few so.1 h)
    (λ done done-is h. absurd cc)))
    (λ none f. subst (λ (xs : DataItems). RefusesComponents place (ArrayOf xs) r) (sym none) (subst (RefusesComponents place (ArrayOf NoItems)) (same_err _ r f) NoComponents))
    (λ many f. subst (RefusesComponents place (ArrayOf items)) (same_err _ r f) (ManyComponents items many))

components_err : (levels place : ℕ) (x : DataItem) (r : Refusal) → IsValidWithin levels x → judge_components place x ≡ Err r → RefusesComponents place x r
components_err levels place x r valid e =
    by_array (List (List (List ℕ))) (λ (y : DataItem). judge_components place y ≡ Err r → RefusesComponents place y r)
    (λ items f. array_err place items r f)
    (λ y o f. subst (RefusesComponents place y) (same_err _ r (sym (o.judged judge_count place) ∙ f)) (NoArray y o.other))
    x e

-- there is an identifier for each refusal of one
some_bad : (place : ℕ) (items : DataItems) (r : Refusal) → RefusesIdentifiers place items r → 1 ≤ item_count items
some_bad place items r (BadIdentifier at x others s bad) = omega arith
some_bad place items r (LaterIdentifier at id others s short bad) = omega arith

components_refused : (place : ℕ) (x : DataItem) (r : Refusal) → RefusesComponents place x r → judge_components place x ≡ Err r
components_refused place x r (NoArray y other) =
    by_array (List (List (List ℕ))) (λ (z : DataItem). (IsArray z → ⊥) → judge_components place z ≡ Err (refused place Shape)) (λ items f. absurd (f tt)) (λ z o f. o.judged judge_count place) y other
components_refused place x r NoComponents = refl
components_refused place x r (ManyComponents items many) =
    let not_zero : eqb (item_count items) 0 ≡ false = ne_eqb _ _ (λ none. absurd (omega (arith, many, none))) in
    let above : ltb 8 (item_count items) ≡ true = lt-ltb 8 (item_count items) many in
    rw (not_zero, above) refl
components_refused place x r (BadComponents items s few bad) =
    let judged : judge_ids (elements_place place items) items ≡ Err s = rw (ids_refused (elements_place place items) items s bad) refl in
    count_judged place items (some_bad (elements_place place items) items s bad) few ∙ judged
components_refused place x r (AlikeComponents ids i j few short two) =
    let items = identifier_items ids in
    let from = elements_place place items in
    let long = counted ids in
    let first = alike_found ids i j two in
    let inside : j < 0 + item_count items = omega (arith, two.inside, long) in
    let apart = apart_refused ids 0 from items i j (omega arith) inside first.0 (λ m at lt. first.1 m lt) in
    let all : j - 0 ≡ j = omega arith in
    let found : judge_ids from items ≡ Err (refused (element_place from items (j - 0)) (TwoAlike i j)) = rw (ids_again from ids short, apart) refl in
    let judged : judge_ids from items ≡ Err (refused (element_place from items j) (TwoAlike i j)) = found ∙ ap (λ (k : ℕ). Err (refused (element_place from items k) (TwoAlike i j))) all in
    count_judged place items (omega (arith, inside)) (omega (arith, few, long)) ∙ judged

pub components_judge : Judges judge_components IsComponents RefusesComponents
components_judge = record { ok = components_ok; again = components_again; err = components_err; refuses = components_refused }
