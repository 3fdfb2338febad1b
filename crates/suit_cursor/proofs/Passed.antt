-- A map of parameters that was judged is skipped by reading only heads.
use Rattle.std.proofs.Common.{◌≡◌, ℕ, suc, ◌+◌, ◌-◌, ◌<◌, ◌≤◌, List, [], ◌++◌, length, take, drop, Option, Some, None, Result, Ok, refl, sym, ap, subst, ◌∙◌, append_assoc, arith}
use Rattle.std.specs.Prelude.{IsOk}
use Rattle.std.proofs.lemmas.List.{length-append, append-nil, take_at, drop_at}
use Rattle.det_cbor.specs.Heads.{head_bytes}
use Rattle.det_cbor.specs.DataItem.{DataItem, UnsignedInteger, NegativeInteger, ByteString, TextString, ArrayOf, MapOf, TaggedItem, Boolean, NullItem, DataPairs, NoPairs, PairThen, pair_count, spell, spell_pairs, IsValidWithin, ArePairsWithin}
use Rattle.det_cbor.specs.declared.head.Head.{Head}
use Rattle.det_cbor.specs.HeadReading.{◌>>=◌}
use Rattle.det_cbor.specs.HeadSpelling.{spelled}
use Rattle.det_cbor.specs.ItemHeads.{item_head, item_spelled}
use Rattle.det_cbor.specs.ItemOrder.{spell_parts}
use Rattle.det_cbor.specs.Position.{Position}
use Rattle.det_cbor.specs.ResultLaws.{same_ok, ok_pair}
use Rattle.det_cbor.specs.ArgumentLaws.{IsBytes}
use Rattle.suit_params.specs.declared.param.ParamKey.{ParamKey}
use Rattle.suit_params.specs.declared.param.ParamKey.TheVariants as keys
use Rattle.suit_params.specs.declared.refusal.Refusal.{Refusal}
use Rattle.suit_params.specs.Reading.{head_from, bytes_from, item_from, inner_from, inside}
use Rattle.suit_params.specs.ParamJudging.{judge_id, judge_bytes, judge_text, judge_number, judge_flag, judge_key, judge_value, judge_pairs, judge_params}
use Rattle.suit_params.specs.Params.{value_place, next_place}
use Rattle.suit_params.specs.ParamReading.{params_at, next_params}
use Rattle.suit_params.specs.HeadLaws.{item_head_read, bytes_again, after}
use Rattle.suit_params.specs.JudgingLaws.{ItemTaken, item_ok}
use Rattle.suit_params.proofs.ParamReads.{params_read}
use Rattle.suit_cursor.specs.Passing.{behind_plain, behind_pair, behind_pairs}
use Rattle.suit_cursor.proofs.Known.{ok_is, first_ok, then_ok}

-- ---- items that hold no items

abbrev IsPlain : DataItem → Type 0
IsPlain (ArrayOf xs) = ⊥
IsPlain (MapOf pairs) = ⊥
IsPlain (TaggedItem tag x) = ⊥
IsPlain _ = Unit {0}

string_passed : (p : Position) (head bytes rest : List ℕ) → bytes_from (length bytes) (after p head (bytes ++ rest)) ≡ Ok (bytes, after p (head ++ bytes) rest)
string_passed p head bytes rest =
    let q = after p head (bytes ++ rest) in
    let last : q.place + length bytes ≡ p.place + length (head ++ bytes) = omega (arith, length-append head bytes) in
    bytes_again q bytes rest refl ∙ ap (λ (n : ℕ). Ok (bytes, record { left = rest; place = n })) last

head_alone : (x : DataItem) → spell_parts x ≡ [] → spelled (item_head x) ≡ spell x
head_alone x none = sym (item_spelled x ∙ ap (λ (l : List ℕ). spelled (item_head x) ++ l) none ∙ append-nil (spelled (item_head x)))

plain_passed : (levels : ℕ) (p : Position) (x : DataItem) (rest : List ℕ) → IsValidWithin levels x → IsPlain x → p.left ≡ spell x ++ rest → behind_plain p ≡ Ok (after p (spell x) rest)
unfolding behind_plain
plain_passed levels p (ByteString bytes) rest valid plain is = rw (item_head_read levels p (ByteString bytes) rest valid is, string_passed p (head_bytes 2 (length bytes)) bytes rest) refl
plain_passed levels p (TextString bytes) rest valid plain is = rw (item_head_read levels p (TextString bytes) rest valid is, string_passed p (head_bytes 3 (length bytes)) bytes rest) refl
plain_passed levels p (UnsignedInteger n) rest valid plain is = rw (item_head_read levels p (UnsignedInteger n) rest valid is) refl
plain_passed levels p (NegativeInteger n) rest valid plain is = rw (item_head_read levels p (NegativeInteger n) rest valid is) refl
plain_passed levels p (Boolean b) rest valid plain is = rw (item_head_read levels p (Boolean b) rest valid is) (ap (λ (l : List ℕ). Ok (after p l rest)) (head_alone (Boolean b) refl))
plain_passed levels p NullItem rest valid plain is = rw (item_head_read levels p NullItem rest valid is) (ap (λ (l : List ℕ). Ok (after p l rest)) (head_alone NullItem refl))
plain_passed levels p x rest valid plain is = absurd plain

-- ---- values of parameters hold no items

plain_id : (place : ℕ) (x : DataItem) → IsOk (judge_id place x) → IsPlain x
plain_id place (ByteString bytes) ok = tt
plain_id place x ok = absurd cc

plain_bytes : (place : ℕ) (x : DataItem) → IsOk (judge_bytes place x) → IsPlain x
plain_bytes place (ByteString bytes) ok = tt
plain_bytes place x ok = absurd cc

plain_text : (place : ℕ) (x : DataItem) → IsOk (judge_text place x) → IsPlain x
plain_text place (TextString text) ok = tt
plain_text place x ok = absurd cc

plain_number : (place : ℕ) (x : DataItem) → IsOk (judge_number place x) → IsPlain x
plain_number place (UnsignedInteger n) ok = tt
plain_number place x ok = absurd cc

plain_flag : (place : ℕ) (x : DataItem) → IsOk (judge_flag place x) → IsPlain x
plain_flag place (Boolean b) ok = tt
plain_flag place x ok = absurd cc

plain_value : (count : ℕ) (key : ParamKey) (place : ℕ) (x : DataItem) → IsOk (judge_value count key place x) → IsPlain x
plain_value count keys.Vendor place x ok = plain_id place x (first_ok (judge_id place x) _ ok)
plain_value count keys.Class place x ok = plain_id place x (first_ok (judge_id place x) _ ok)
plain_value count keys.Device place x ok = plain_id place x (first_ok (judge_id place x) _ ok)
plain_value count keys.Digest place x ok = plain_bytes place x (first_ok (judge_bytes place x) _ ok)
plain_value count keys.Slot place x ok = plain_number place x (first_ok (judge_number place x) _ ok)
plain_value count keys.Strict place x ok = plain_flag place x (first_ok (judge_flag place x) _ ok)
plain_value count keys.Soft place x ok = plain_flag place x (first_ok (judge_flag place x) _ ok)
plain_value count keys.Size place x ok = plain_number place x (first_ok (judge_number place x) _ ok)
plain_value count keys.Content place x ok = plain_bytes place x (first_ok (judge_bytes place x) _ ok)
plain_value count keys.Uri place x ok = plain_text place x (first_ok (judge_text place x) _ ok)
plain_value count keys.Source place x ok = plain_number place x (first_ok (judge_number place x) _ ok)
plain_value count keys.Args place x ok = plain_bytes place x (first_ok (judge_bytes place x) _ ok)

-- ---- pairs

record OkPair (count place : ℕ) (key value : DataItem) (others : DataPairs) : Type 0 where
  plain : IsPlain value
  rest : IsOk (judge_pairs count (next_place place key value) others)

ok_pairs : (count place : ℕ) (key value : DataItem) (others : DataPairs) → IsOk (judge_pairs count place (PairThen key value others)) → OkPair count place key value others
ok_pairs count place key value others ok =
    let k = ok_is (judge_key place key) (first_ok (judge_key place key) _ ok) in
    let value_ok = then_ok (judge_key place key) _ k.0 k.1 ok in
    let judged = judge_value count k.0 (value_place place key) value in
    let v = ok_is judged (first_ok judged _ value_ok) in
    let others_ok = then_ok judged _ v.0 v.1 value_ok in
    record {
      plain = plain_value count k.0 (value_place place key) value (first_ok judged _ value_ok);
      rest = first_ok (judge_pairs count (next_place place key value) others) _ others_ok;
    }

pairs_passed : (count levels place : ℕ) (p : Position) (before : Option (List ℕ)) (pairs : DataPairs) (rest : List ℕ) → ArePairsWithin levels before pairs → IsOk (judge_pairs count place pairs) → p.left ≡ spell_pairs pairs ++ rest
    → behind_pairs (pair_count pairs) p ≡ Ok (after p (spell_pairs pairs) rest)
pairs_passed count levels place p before NoPairs rest valid ok is =
    let same : p.place ≡ p.place + 0 = omega arith in
    ap (λ (l : List ℕ). Ok (record { left = l; place = p.place })) is ∙ ap (λ (n : ℕ). Ok (record { left = rest; place = n })) same
pairs_passed count levels place p before (PairThen (UnsignedInteger n) value others) rest valid ok is =
    let key = UnsignedInteger n in
    let good = ok_pairs count place key value others ok in
    let one : pair_count others + 1 ≡ suc (pair_count others) = omega arith in
    let behind = spell_pairs others ++ rest in
    let q = after p (spell key) (spell value ++ behind) in
    let r = after q (spell value) behind in
    let whole : p.left ≡ spell key ++ (spell value ++ behind) = is ∙ simp append_assoc in
    let key_read : head_from p ≡ Ok (item_head key, q) = item_head_read levels p key (spell value ++ behind) valid.0 whole in
    let value_read : behind_plain q ≡ Ok r = plain_passed levels q value behind valid.2 good.plain refl in
    let others_read = pairs_passed count levels (next_place place key value) r (Some (spell key)) others rest valid.3 good.rest refl in
    let last : r.place + length (spell_pairs others) ≡ p.place + length (spell key ++ (spell value ++ spell_pairs others)) = omega (arith, length-append (spell key) (spell value ++ spell_pairs others), length-append (spell value) (spell_pairs others)) in
    rw (one, key_read, value_read) (others_read ∙ ap (λ (n : ℕ). Ok (record { left = rest; place = n })) last)
pairs_passed count levels place p before (PairThen key value others) rest valid ok is = absurd cc

-- skipping the pairs one by one

pub pair_ok : (pairs i : ℕ) (at : Position) (total : Result Position Refusal) → i < pairs → behind_pairs (pairs - i) at ≡ total → IsOk total → IsOk (behind_pair at)
pair_ok pairs i at total lt so_far ok =
    let one : pairs - i ≡ suc (pairs - (i + 1)) = omega arith in
    first_ok (behind_pair at) (behind_pairs (pairs - (i + 1))) (subst (λ (n : ℕ). IsOk (behind_pairs n at)) one (subst (λ (r : Result Position Refusal). IsOk r) (sym so_far) ok))

pub pair_step : (pairs i : ℕ) (at next : Position) (total : Result Position Refusal) → i < pairs → behind_pair at ≡ Ok next → behind_pairs (pairs - i) at ≡ total → behind_pairs (pairs - (i + 1)) next ≡ total
pair_step pairs i at next total lt e so_far =
    let one : pairs - i ≡ suc (pairs - (i + 1)) = omega arith in
    let step : behind_pairs (pairs - i) at ≡ behind_pairs (pairs - (i + 1)) next = rw (one, e) refl in
    sym step ∙ so_far

-- ---- the map

record Passed (p : Position) : Type 0 where
  pairs : DataPairs
  behind : Position
  inner : inner_from p ≡ Ok (inside p (MapOf pairs), behind)
  parts : p.left ≡ spell (MapOf pairs) ++ behind.left
  place : behind.place ≡ p.place + length (spell (MapOf pairs))
  head : head_from p ≡ Ok (item_head (MapOf pairs), after p (head_bytes 5 (pair_count pairs)) (spell_pairs pairs ++ behind.left))
  passes : behind_pairs (pair_count pairs) (after p (head_bytes 5 (pair_count pairs)) (spell_pairs pairs ++ behind.left)) ≡ Ok behind

by_item : (count : ℕ) (p : Position) (x : DataItem) (q : Position) → ItemTaken p x q → inner_from p ≡ Ok (inside p x, q) → IsOk (judge_params count p.place x) → Passed p
by_item count p (MapOf pairs) q taken inner ok =
    let head = head_bytes 5 (pair_count pairs) in
    let first = after p head (spell_pairs pairs ++ q.left) in
    let ends : first.place + length (spell_pairs pairs) ≡ q.place = omega (arith, taken.taken.place, length-append head (spell_pairs pairs)) in
    record {
      pairs = pairs;
      behind = q;
      inner = inner;
      parts = taken.taken.parts;
      place = taken.taken.place;
      head = item_head_read 0 p (MapOf pairs) q.left taken.valid taken.taken.parts;
      passes = pairs_passed count 1 first.place first None pairs q.left taken.valid.2 ok refl ∙ ap (λ (n : ℕ). Ok (record { left = q.left; place = n })) ends;
    }
by_item count p x q taken inner ok = absurd cc

passed : (count : ℕ) (p : Position) → IsBytes p.left → IsOk (next_params count p) → Passed p
passed count p bytes ok =
    let y = ok_is (inner_from p) (first_ok (inner_from p) _ ok) in
    let x = ok_is (item_from p) (first_ok (item_from p) _ (first_ok (inner_from p) _ ok)) in
    let taken = item_ok p x.0.0 x.0.1 bytes x.1 in
    let inner : inner_from p ≡ Ok (inside p x.0.0, x.0.1) = ap (λ (r : Result (DataItem × Position) Refusal). r >>= λ z. Ok (inside p z.0, z.1)) x.1 in
    let read : IsOk (params_at count (inside p x.0.0)) = first_ok (params_at count (inside p x.0.0)) _ (then_ok (inner_from p) _ (inside p x.0.0, x.0.1) inner ok) in
    by_item count p x.0.0 x.0.1 taken inner (subst IsOk (params_read count 0 p.place x.0.0 taken.valid) read)

-- ---- the whole, as the code does it: the head of the map, and then its pairs

module _ (count : ℕ) (p map : Position) (same : map ≡ p) (bytes : IsBytes p.left) (ok : IsOk (next_params count p)) where
  whole : Passed p
  whole = passed count p bytes ok

  head_is : head_from map ≡ Ok (item_head (MapOf whole.pairs), after p (head_bytes 5 (pair_count whole.pairs)) (spell_pairs whole.pairs ++ whole.behind.left))
  head_is = ap head_from same ∙ whole.head

  pub head_ok : IsOk (head_from map)
  head_ok = subst IsOk (sym head_is) refl

  pairs_is : (h : Head) (q : Position) → head_from map ≡ Ok (h, q) → behind_pairs h.value q ≡ Ok whole.behind
  pairs_is h q e =
      let parts = ok_pair _ _ _ _ (sym head_is ∙ e) in
      ap (λ (g : Head). behind_pairs g.value q) (sym parts.0) ∙ ap (behind_pairs (pair_count whole.pairs)) (sym parts.1) ∙ whole.passes

  pub pairs_ok : (h : Head) (q : Position) → head_from map ≡ Ok (h, q) → IsOk (behind_pairs h.value q)
  pairs_ok h q e = subst IsOk (sym (pairs_is h q e)) refl

  ends : (h : Head) (q r : Position) → head_from map ≡ Ok (h, q) → behind_pairs h.value q ≡ Ok r → whole.behind ≡ r
  ends h q r e f = same_ok whole.behind r (sym (pairs_is h q e) ∙ f)

  pub shorter : (h : Head) (q r : Position) → head_from map ≡ Ok (h, q) → behind_pairs h.value q ≡ Ok r → length r.left ≤ length p.left
  shorter h q r e f =
      let same_end = ap (λ (s : Position). length s.left) (ends h q r e f) in
      omega (arith, ap length whole.parts, length-append (spell (MapOf whole.pairs)) whole.behind.left)

  pub item_is : (h : Head) (q r : Position) (n : ℕ) → head_from map ≡ Ok (h, q) → behind_pairs h.value q ≡ Ok r → n ≡ length p.left - length r.left
      → inner_from p ≡ Ok (record { left = take n p.left; place = p.place }, record { left = drop n p.left; place = p.place + n })
  item_is h q r n e f is =
      let item = spell (MapOf whole.pairs) in
      let same_end = ap (λ (s : Position). length s.left) (ends h q r e f) in
      let long : n ≡ length item = omega (arith, ap length whole.parts, length-append item whole.behind.left) in
      let front : take n p.left ≡ item = ap (take n) whole.parts ∙ take_at item whole.behind.left n (sym long) in
      let back : drop n p.left ≡ whole.behind.left = ap (drop n) whole.parts ∙ drop_at item whole.behind.left n (sym long) in
      let place : p.place + n ≡ whole.behind.place = omega (arith, whole.place) in
      let behind_is : whole.behind ≡ record { left = drop n p.left; place = p.place + n } =
      ap (λ (l : List ℕ). record { left = l; place = whole.behind.place }) (sym back) ∙ ap (λ (m : ℕ). record { left = drop n p.left; place = m }) (sym place) in
      whole.inner ∙ ap (λ (l : List ℕ). Ok (record { left = l; place = p.place }, whole.behind)) (sym front)
      ∙ ap (λ (q : Position). Ok (record { left = take n p.left; place = p.place }, q)) behind_is
