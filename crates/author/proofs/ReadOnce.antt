-- In what is read of a text no object has a key twice: its members are put in the order of their keys.
use Rattle.std.proofs.Common.{◌≡◌, ℕ, List, Option, Some, None, Ordering, Less, Equal, Greater, refl, ap, subst, ◌∙◌}
use Rattle.std.specs.Prelude.{option_map, option_and_then}
use Rattle.std.specs.Ordering.{nat_cmp, match_ordering, ordering_reverse}
use Rattle.std.specs.Cmp.Lexicographic.{slice_cmp, nat_list_cmp_total}
use Rattle.json.specs.Json as json
use Rattle.json.specs.Lex.{tokens}
use Rattle.serde_json.specs.Data.{Data, number, array, object, item, Members, no_members, member, put}
use Rattle.serde_json.specs.Find.{get_member}
use Rattle.serde_json.specs.Read.{number_of, of_json, of_items, of_members, max_depth, read}
use Rattle.author.specs.KeysOnce.{HasKeysOnce, HaveKeysOnce, AreKeysOnce}

-- ---- members in the order of their keys

-- the key is below each
abbrev IsBelow : List ℕ → Members → Type 0
IsBelow k no_members = Unit {0}
IsBelow k (member l e ms) = (slice_cmp nat_cmp k l ≡ Less) × IsBelow k ms

abbrev AreInOrder : Members → Type 0
AreInOrder no_members = Unit {0}
AreInOrder (member k d ms) = IsBelow k ms × HasKeysOnce d × AreInOrder ms

none_below : (k : List ℕ) (ms : Members) → IsBelow k ms → get_member k ms ≡ None
none_below k no_members h = refl
none_below k (member l e ms) h = ap (λ o. match_ordering o (get_member k ms) (Some e) (get_member k ms)) h.0 ∙ none_below k ms h.1

in_order_once : (ms : Members) → AreInOrder ms → AreKeysOnce ms
in_order_once no_members h = tt
in_order_once (member k d ms) h = (none_below k ms h.0, h.1, in_order_once ms h.2)

lower : (k l : List ℕ) (ms : Members) → slice_cmp nat_cmp k l ≡ Less → IsBelow l ms → IsBelow k ms
lower k l no_members less h = tt
lower k l (member m e ms) less h = (nat_list_cmp_total.trans k l m less h.0, lower k l ms less h.1)

flipped : (k l : List ℕ) → slice_cmp nat_cmp k l ≡ Greater → slice_cmp nat_cmp l k ≡ Less
flipped k l e = nat_list_cmp_total.antisymm l k ∙ ap ordering_reverse e

below_by : (o : Ordering) (l k m : List ℕ) (d e : Data) (ms : Members) → slice_cmp nat_cmp k m ≡ o → slice_cmp nat_cmp l k ≡ Less → IsBelow l (member m e ms) → IsBelow l (put k d ms)
    → IsBelow l (match_ordering o (member k d (member m e ms)) (member m d ms) (member m e (put k d ms)))
below_by Less l k m d e ms is less h later = (less, h)
below_by Equal l k m d e ms is less h later = h
below_by Greater l k m d e ms is less h later = (h.0, later)

put_below : (l k : List ℕ) (d : Data) (ms : Members) → slice_cmp nat_cmp l k ≡ Less → IsBelow l ms → IsBelow l (put k d ms)
put_below l k d no_members less h = (less, tt)
put_below l k d (member m e ms) less h = below_by (slice_cmp nat_cmp k m) l k m d e ms refl less h (put_below l k d ms less h.1)

order_by : (o : Ordering) (k l : List ℕ) (d e : Data) (ms : Members) → slice_cmp nat_cmp k l ≡ o → HasKeysOnce d → AreInOrder (member l e ms) → AreInOrder (put k d ms)
    → AreInOrder (match_ordering o (member k d (member l e ms)) (member l d ms) (member l e (put k d ms)))
order_by Less k l d e ms is once h later = ((is, lower k l ms is h.0), once, h)
order_by Equal k l d e ms is once h later = (h.0, once, h.2)
order_by Greater k l d e ms is once h later = (put_below l k d ms (flipped k l is) h.0, h.1, later)

put_in_order : (k : List ℕ) (d : Data) (ms : Members) → HasKeysOnce d → AreInOrder ms → AreInOrder (put k d ms)
put_in_order k d no_members once h = (tt, once, tt)
put_in_order k d (member l e ms) once h = order_by (slice_cmp nat_cmp k l) k l d e ms refl once h (put_in_order k d ms once h.2)

-- ---- what is read

abbrev If : {A : Type 0} → (A → Type 0) → Option A → Type 0
If P None = Unit {0}
If P (Some x) = P x

if_map : {A B : Type 0} (P : A → Type 0) (Q : B → Type 0) (f : A → B) (o : Option A) → ((x : A) → P x → Q (f x)) → If P o → If Q (option_map f o)
if_map P Q f None next h = tt
if_map P Q f (Some x) next h = next x h

if_then : {A B : Type 0} (P : A → Type 0) (Q : B → Type 0) (f : A → Option B) (o : Option A) → ((x : A) → P x → If Q (f x)) → If P o → If Q (option_and_then f o)
if_then P Q f None next h = tt
if_then P Q f (Some x) next h = next x h

any : {A : Type 0} (o : Option A) → If (λ x. Unit {0}) o
any None = tt
any (Some x) = tt

mutual
  json_once : (j : json.Json) → If HasKeysOnce (of_json j)
  json_once json.null = tt
  json_once (json.boolean b) = tt
  json_once (json.number s) = if_map (λ n. Unit {0}) HasKeysOnce number (number_of s) (λ n h. tt) (any (number_of s))
  json_once (json.string s) = tt
  json_once (json.array js) = if_map HaveKeysOnce HasKeysOnce array (of_items js) (λ ds h. h) (items_once js)
  json_once (json.object ms) = if_map AreInOrder HasKeysOnce object (of_members ms no_members) (λ found h. in_order_once found h) (members_in_order ms no_members tt)

  items_once : (js : json.Items) → If HaveKeysOnce (of_items js)
  items_once json.no_items = tt
  items_once (json.item j js) =
      if_then HasKeysOnce HaveKeysOnce (λ d. option_map (item d) (of_items js)) (of_json j) (λ d h. if_map HaveKeysOnce HaveKeysOnce (item d) (of_items js) (λ ds hs. (h, hs)) (items_once js)) (json_once j)

  members_in_order : (ms : json.Members) (found : Members) → AreInOrder found → If AreInOrder (of_members ms found)
  members_in_order json.no_members found h = h
  members_in_order (json.member name j ms) found h =
      if_then HasKeysOnce AreInOrder (λ d. of_members ms (put name d found)) (of_json j) (λ d once. members_in_order ms (put name d found) (put_in_order name d found once h)) (json_once j)

read_as : (text : List ℕ) (d : Data) (o : Option json.Json) → option_and_then of_json o ≡ Some d → HasKeysOnce d
read_as text d None e = absurd cc
read_as text d (Some j) e = subst (If HasKeysOnce) e (json_once j)

pub read_once : (text : List ℕ) (d : Data) → read text ≡ Some d → HasKeysOnce d
read_once text d e = read_as text d (option_and_then (λ p. json.if_last p.0 p.1) (json.value max_depth (tokens text))) e
