-- Identifiers that are spelled one after another are read back.
use Rattle.std.proofs.Common.{◌≡◌, ℕ, zero, suc, ◌+◌, ◌-◌, ◌^◌, ◌<◌, ◌≤◌, List, [], ◌∷◌, ◌++◌, length, get_or, take, drop, replicate, Result, Ok, Err, refl, sym, ap, subst, ◌∙◌, append_assoc, add-one, drop-cons, arith}
use Rattle.std.specs.Prelude.{IsOk}
use Rattle.std.proofs.lemmas.List.{take_at, drop_at, take_all, append-nil, length-append, length-take, take_more}
use Rattle.det_cbor.specs.ArgumentLaws.{IsBytes, IsBytes-take, IsBytes-rest, all_bytes, head_length}
use Rattle.det_cbor.specs.DataItem.{ArrayOf, item_count, spell, spell_items, IsValid, AreValidWithin}
use Rattle.det_cbor.specs.HeadReading.{◌>>=◌, map_ok}
use Rattle.det_cbor.specs.Heads.{head_bytes}
use Rattle.det_cbor.specs.Position.{Position}
use Rattle.det_cbor.specs.ResultLaws.{bind_ok, ok_pair, same_ok}
use Rattle.det_cbor.specs.declared.head.HeadKind.TheVariants as kinds
use Rattle.suit_params.specs.declared.refusal.Refusal.{Refusal}
use Rattle.suit_params.specs.Identifiers.{string_items, identifier_item, identifier_items, spelled_id}
use Rattle.suit_params.specs.JudgingLaws.{item_read}
use Rattle.suit_params.specs.Reading.{array_from, content_from, inner_from, inside, resting}
use Rattle.flash_layout.specs.PageReading.{parts_from, identifier_at}
use Rattle.flash_layout.proofs.Found.{other_default}
use Rattle.flash_layout.proofs.Laws.{head_read, count_fits, identifier_read}
use Rattle.flash_layout.proofs.Spellings.{count_of}
use Rattle.flash_layout.proofs.Steps.{with_front, parts_step}

-- ---- what is spelled in bytes is valid

IsBytes-front : (front rest : List ℕ) → IsBytes (front ++ rest) → IsBytes front
IsBytes-front front rest h = subst IsBytes (take_at front rest (length front) refl) (IsBytes-take (length front) (front ++ rest) h)

strings_valid : (levels : ℕ) (parts : List (List ℕ)) → IsBytes (spell_items (string_items parts)) → length (spell_items (string_items parts)) < 2 ^ 64 → AreValidWithin levels (string_items parts)
strings_valid levels [] bytes fits = tt
strings_valid levels (part ∷ parts) bytes fits =
    let head = head_bytes 2 (length part) in
    let others = spell_items (string_items parts) in
    let long : length (head ++ part) + length others ≡ length ((head ++ part) ++ others) = sym (length-append (head ++ part) others) in
    let content = IsBytes-rest head part (IsBytes-front (head ++ part) others bytes) in
    ((omega (arith, long, fits, length-append head part), all_bytes part content), strings_valid levels parts (IsBytes-rest (head ++ part) others bytes) (omega (arith, long, fits)))

identifier_valid : (id : List (List ℕ)) → IsBytes (spell (identifier_item id)) → length (spell (identifier_item id)) < 2 ^ 64 → IsValid (identifier_item id)
identifier_valid id bytes fits =
    let head = head_bytes 4 (item_count (string_items id)) in
    let parts = spell_items (string_items id) in
    let long : length parts < 2 ^ 64 = omega (arith, fits, length-append head parts) in
    (omega arith, omega (arith, count_of id, count_fits id long, long), strings_valid 1 id (IsBytes-rest head parts bytes) long)

-- ---- the array

ids_count : (ids : List (List (List ℕ))) → item_count (identifier_items ids) ≡ length ids
ids_count [] = refl
ids_count (id ∷ ids) = omega (arith, ids_count ids)

items_fit : (ids : List (List (List ℕ))) → length (spell_items (identifier_items ids)) < 2 ^ 64 → length ids ≤ length (spell_items (identifier_items ids))
items_fit [] fits = omega arith
items_fit (id ∷ ids) fits =
    let first = spell (identifier_item id) in
    let others = spell_items (identifier_items ids) in
    let long = length-append first others in
    let head = head_bytes 4 (item_count (string_items id)) in
    let parts = spell_items (string_items id) in
    let both = length-append head parts in
    let few : length parts < 2 ^ 64 = omega (arith, fits, long, both) in
    let count : item_count (string_items id) < 2 ^ 64 = omega (arith, count_of id, count_fits id few, few) in
    omega (arith, long, both, (head_length 4 (item_count (string_items id)) count).0, items_fit ids (omega (arith, fits, long)))

-- the position after the array's head
pub record ReadsArray (p : Position) (ids : List (List (List ℕ))) : Type 0 where
  pub next : Position
  pub read : array_from p ≡ Ok (length ids, next)
  pub left : next.left ≡ spell_items (identifier_items ids)
  pub bytes : IsBytes next.left
  pub room : length next.left < 2 ^ 64

array_read : (whole : List ℕ) (p : Position) (ids : List (List (List ℕ))) → p ≡ record { left = whole; place = 0 } → whole ≡ spell (ArrayOf (identifier_items ids)) → IsBytes whole → length whole < 2 ^ 64 → ReadsArray p ids
unfolding array_from
array_read whole p ids at is bytes fits =
    let items = spell_items (identifier_items ids) in
    let head = head_bytes 4 (length ids) in
    let counted : whole ≡ head ++ items = is ∙ ap (λ (n : ℕ). head_bytes 4 n ++ items) (ids_count ids) in
    let few : length items < 2 ^ 64 = omega (arith, fits, ap length counted, length-append head items) in
    let left : p.left ≡ head ++ items = ap (λ (q : Position). q.left) at ∙ counted in
    record {
      next = resting p items;
      read = rw (head_read kinds.Array (length ids) items p (omega arith) refl (omega (arith, few, items_fit ids few)) left) refl;
      left = refl;
      bytes = IsBytes-rest head items (subst IsBytes counted bytes);
      room = few;
    }

-- ---- one identifier after another

-- the identifier at an index is read, and those after it are left
record ReadsIdentifier (p : Position) (ids : List (List (List ℕ))) (k : ℕ) : Type 0 where
  pub item : Position
  pub next : Position
  pub read : inner_from p ≡ Ok (item, next)
  pub named : (d : List (List ℕ)) → identifier_at item.left ≡ Ok (get_or ids k d)
  pub left : next.left ≡ spell_items (identifier_items (drop (k + 1) ids))
  pub bytes : IsBytes next.left
  pub room : length next.left < 2 ^ 64

spelled_is : (id : List (List ℕ)) → spelled_id id ≡ spell (identifier_item id)
unfolding spelled_id
spelled_is id = refl

identifier_next : (p : Position) (ids : List (List (List ℕ))) (k : ℕ) → p.left ≡ spell_items (identifier_items (drop k ids)) → k < length ids → IsBytes p.left → length p.left < 2 ^ 64 → ReadsIdentifier p ids k
identifier_next p ids k is lt bytes fits =
    let id = get_or ids k [] in
    let item = spell (identifier_item id) in
    let others = spell_items (identifier_items (drop (k + 1) ids)) in
    let parts : p.left ≡ item ++ others = is ∙ rw (add-one, drop-cons ids k [] lt) refl in
    let all : IsBytes (item ++ others) = subst IsBytes parts bytes in
    let long : length p.left ≡ length item + length others = ap length parts ∙ length-append item others in
    let short : length item < 2 ^ 64 = omega (arith, long, fits) in
    let valid = identifier_valid id (IsBytes-front item others all) short in
    let same = spelled_is id in
    let named : identifier_at item ≡ Ok id = subst (λ (l : List ℕ). identifier_at l ≡ Ok id) same (identifier_read id (omega (arith, short, ap length same))) in
    record {
      item = inside p (identifier_item id);
      next = record { left = others; place = p.place + length item };
      read = rw (item_read p (identifier_item id) others valid parts) refl;
      named = λ d. named ∙ ap (λ (i : List (List ℕ)). Ok i) (other_default ids k [] d lt);
      left = refl;
      bytes = IsBytes-rest item others all;
      room = omega (arith, long, fits);
    }

-- ---- the byte strings of one

-- if the whole is read, so is its next part
pub next_is_read : (front : List (List ℕ)) (count done : ℕ) (p : Position) (total : Result (List (List ℕ)) Refusal) → done < count
    → with_front front (parts_from (count - done) p) ≡ total → IsOk total → IsOk (content_from p)
next_is_read front count done p total lt so_far ok =
    let one : count - done ≡ suc (count - (done + 1)) = omega arith in
    by_content (content_from p) refl (subst (λ (n : ℕ). with_front front (parts_from n p) ≡ total) one so_far)
  where
    by_content : (r : Result (Position × Position) Refusal) → content_from p ≡ r → with_front front (parts_from (suc (count - (done + 1))) p) ≡ total → IsOk (content_from p)
    by_content (Ok c) is f = rw is refl
    by_content (Err r) is f = let bad : Err r ≡ total = rw is at f in rw is (subst IsOk (sym bad) ok)

-- what was read is the part of the whole at this index
pub part_is : (parts front : List (List ℕ)) (i : ℕ) (a d : List ℕ) (rest total : Result (List (List ℕ)) Refusal) → i < length parts → length front ≡ i
    → with_front (front ++ a ∷ []) rest ≡ total → total ≡ Ok parts → a ≡ get_or parts i d
part_is parts front i a d (Ok rest) total lt long so_far whole =
    let both : ◌≡◌ {A = Result (List (List ℕ)) Refusal} (Ok ((front ++ a ∷ []) ++ rest)) (Ok parts) = so_far ∙ whole in
    let same : (front ++ a ∷ []) ++ rest ≡ parts = cc in
    let there : drop i parts ≡ a ∷ rest = ap (drop i) (sym same ∙ append_assoc front (a ∷ []) rest) ∙ drop_at front (a ∷ rest) i long in
    let also : drop i parts ≡ get_or parts i d ∷ drop (suc i) parts = drop-cons parts i d lt in
    cc
part_is parts front i a d (Err r) total lt long so_far whole = let both : ◌≡◌ {A = Result (List (List ℕ)) Refusal} (Err r) (Ok parts) = so_far ∙ whole in absurd cc

-- one more byte string
module _ (parts : List (List ℕ)) (i : ℕ) (at inner next : Position) (d : List ℕ) (total : Result (List (List ℕ)) Refusal)
    (lt : i < length parts) (content : content_from at ≡ Ok (inner, next)) (so_far : with_front (take i parts) (parts_from (length parts - i) at) ≡ total) where
  pub same_next : get_or parts i d ≡ inner.left → with_front (take (i + 1) parts) (parts_from (length parts - (i + 1)) next) ≡ total
  same_next same = rw (take_more parts i d lt) (parts_step (take i parts) (length parts) i at next inner (get_or parts i d) total lt (sym content) same so_far)

  pub same_part : total ≡ Ok parts → inner.left ≡ get_or parts i d
  same_part whole =
      part_is parts (take i parts) i inner.left d (parts_from (length parts - (i + 1)) next) total lt (omega (arith, length-take i parts, lt))
      (parts_step (take i parts) (length parts) i at next inner inner.left total lt (sym content) refl so_far) whole

-- once the last one is read, so is the whole
pub all_are_read : (parts : List (List ℕ)) (done : ℕ) (p : Position) (total : Result (List (List ℕ)) Refusal) → done ≡ length parts
    → with_front (take done parts) (parts_from (length parts - done) p) ≡ total → total ≡ Ok parts
all_are_read parts done p total end so_far =
    let none : length parts - done ≡ 0 = omega (arith, end) in
    let all : take done parts ≡ parts = ap (λ (n : ℕ). take n parts) end ∙ take_all (length parts) parts (omega arith) in
    sym so_far ∙ rw (none, all) (ap (λ (l : List (List ℕ)). Ok l) (append-nil parts))

pub parts_counted : (n : ℕ) (p : Position) (parts : List (List ℕ)) → parts_from n p ≡ Ok parts → length parts ≡ n
parts_counted zero p parts e = let none : [] ≡ parts = same_ok [] parts e in ap length (sym none)
parts_counted (suc n) p parts e =
    bind_ok (content_from p) _ parts e (λ c is f. bind_ok (parts_from n c.1) _ parts f (λ rest also g.
    let all : c.0.left ∷ rest ≡ parts = same_ok (c.0.left ∷ rest) parts g in
    omega (arith, ap length (sym all), parts_counted n c.1 rest also)))

-- ---- what the calls answer

pub answered : {A B : Type 0} (f : A → B) (r : Result A Refusal) (known : Result B Refusal) → map_ok f r ≡ known → IsOk known → IsOk r
answered f (Ok x) known e ok = refl
answered f (Err s) known e ok = subst IsOk (sym e) ok

pub answer_is : {A B : Type 0} (f : A → B) (r : Result A Refusal) (known : Result B Refusal) (x : A) → map_ok f r ≡ known → r ≡ Ok x → known ≡ Ok (f x)
answer_is f r known x e is = sym e ∙ ap (map_ok f) is

pub first_ok : {A B : Type 0} (r : Result A Refusal) (f : A → Result B Refusal) → IsOk (r >>= f) → IsOk r
first_ok (Ok x) f ok = refl
first_ok (Err s) f ok = ok

is_ok : {A : Type 0} (r : Result A Refusal) (x : A) → r ≡ Ok x → IsOk r
is_ok r x is = subst IsOk (sym is) refl

-- an answer, and the position after it
answer_pair : {A : Type 0} (r : Result A Refusal) (q : Position) (known : Result (A × Position) Refusal) (x a : A) (next : Position) → map_ok (λ y. (y, q)) r ≡ known → r ≡ Ok x → known ≡ Ok (a, next) → (x ≡ a) × (q ≡ next)
answer_pair r q known x a next e is k = ok_pair x a q next (sym (answer_is (λ y. (y, q)) r known x e is) ∙ k)

-- the call that reads an identifier's head
module _ (bytes : List ℕ) (p : Position) (r : Result ℕ Refusal) (q : Position) (at : p ≡ record { left = bytes; place = 0 }) (e : map_ok (λ n. (n, q)) r ≡ array_from p) where
  pub head_ok : IsOk (identifier_at bytes) → IsOk r
  unfolding identifier_at
  head_ok ok = answered (λ n. (n, q)) r (array_from p) e (subst (λ (x : Position). IsOk (array_from x)) (sym at) (first_ok (array_from (record { left = bytes; place = 0 })) _ ok))

  pub head_is : (n : ℕ) → r ≡ Ok n → identifier_at bytes ≡ parts_from n q
  unfolding identifier_at
  head_is n was = let read : array_from (record { left = bytes; place = 0 }) ≡ Ok (n, q) = ap array_from (sym at) ∙ answer_is (λ n. (n, q)) r (array_from p) n e was in rw read refl

pub record ArrayPassed (ids : List (List (List ℕ))) (n : ℕ) (q : Position) : Type 0 where
  pub count : n ≡ length ids
  pub left : q.left ≡ spell_items (identifier_items ids)
  pub bytes : IsBytes q.left
  pub room : length q.left < 2 ^ 64

-- the call that reads the array's head
module _ (whole : List ℕ) (p : Position) (ids : List (List (List ℕ))) (r : Result ℕ Refusal) (q : Position)
    (at : p ≡ record { left = whole; place = 0 }) (is : whole ≡ spell (ArrayOf (identifier_items ids))) (bytes : IsBytes whole) (fits : length whole < 2 ^ 64)
    (e : map_ok (λ n. (n, q)) r ≡ array_from p) where
  pub array_ok : IsOk r
  array_ok = let so = array_read whole p ids at is bytes fits in answered (λ n. (n, q)) r (array_from p) e (is_ok (array_from p) (length ids, so.next) so.read)

  pub array_is : (n : ℕ) → r ≡ Ok n → ArrayPassed ids n q
  array_is n was =
      let so = array_read whole p ids at is bytes fits in
      let both = answer_pair r q (array_from p) n (length ids) so.next e was so.read in
      let next = sym both.1 in
      record {
        count = both.0;
        left = subst (λ (x : Position). x.left ≡ spell_items (identifier_items ids)) next so.left;
        bytes = subst (λ (x : Position). IsBytes x.left) next so.bytes;
        room = subst (λ (x : Position). length x.left < 2 ^ 64) next so.room;
      }

pub record IdentifierPassed (ids : List (List (List ℕ))) (k : ℕ) (item q : Position) : Type 0 where
  pub named : (d : List (List ℕ)) → identifier_at item.left ≡ Ok (get_or ids k d)
  pub left : q.left ≡ spell_items (identifier_items (drop (k + 1) ids))
  pub bytes : IsBytes q.left
  pub room : length q.left < 2 ^ 64

-- the call that reads an identifier
module _ (p : Position) (ids : List (List (List ℕ))) (k : ℕ) (r : Result Position Refusal) (q : Position)
    (is : p.left ≡ spell_items (identifier_items (drop k ids))) (lt : k < length ids) (bytes : IsBytes p.left) (fits : length p.left < 2 ^ 64)
    (e : map_ok (λ i. (i, q)) r ≡ inner_from p) where
  pub identifier_ok : IsOk r
  identifier_ok = let so = identifier_next p ids k is lt bytes fits in answered (λ i. (i, q)) r (inner_from p) e (is_ok (inner_from p) (so.item, so.next) so.read)

  pub identifier_is : (item : Position) → r ≡ Ok item → IdentifierPassed ids k item q
  identifier_is item was =
      let so = identifier_next p ids k is lt bytes fits in
      let both = answer_pair r q (inner_from p) item so.item so.next e was so.read in
      let next = sym both.1 in
      record {
        named = λ d. ap (λ (x : Position). identifier_at x.left) both.0 ∙ so.named d;
        left = subst (λ (x : Position). x.left ≡ spell_items (identifier_items (drop (k + 1) ids))) next so.left;
        bytes = subst (λ (x : Position). IsBytes x.left) next so.bytes;
        room = subst (λ (x : Position). length x.left < 2 ^ 64) next so.room;
      }

pub zeros_at : (n j : ℕ) → get_or (replicate {A = ℕ} n 0) j 0 ≡ 0
zeros_at zero j = refl
zeros_at (suc n) zero = refl
zeros_at (suc n) (suc j) = zeros_at n j
