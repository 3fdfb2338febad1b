-- Parameters are read as they are written.
use Rattle.std.proofs.Common.{◌≡◌, ◌≢◌, ℕ, ◌<◌, ◌≤◌, ◌^◌, ◌-◌, List, [], ◌∷◌, Some, Ok, Ordering, Less, Equal, Greater, nat_cmp, is_eq, unwrap_or, refl, sym, ap, ◌∙◌, arith}
use Rattle.std.proofs.lemmas.Bool.Decides.{nat_tests}
use Rattle.std.proofs.lemmas.Map.Text.{is_eq-slice_cmp}
use Rattle.std.proofs.lemmas.Slice.Eq.{bytes_eq-Decides}
use Rattle.std.specs.Cmp.Lexicographic.{slice_cmp}
use Rattle.std.specs.List.{AllByRecursion}
use Rattle.std.specs.Ordering.{match_ordering}
use Rattle.serde_json.specs.Data.{Members, no_members, member, put}
use Rattle.json_fields.specs.Objects.{members_of}
use Rattle.suit_params.specs.declared.param.Param.{Param}
use Rattle.suit_params.specs.declared.param.Param.TheVariants as params
use Rattle.suit_params.specs.ParamKeys.{key_of, key_number}
use Rattle.suit_params.specs.ParamLaws.{AreAbove, AreAscending}
use Rattle.suit_params.specs.ParamMaking.{IsParam, IsBelow}
use Rattle.author.specs.Scope.{Scope}
use Rattle.author.specs.ParamNames.{param_named}
use Rattle.author.specs.ParamValues.{index_of, param_value, placed_among, takes_param, params_of}
use Rattle.describe.specs.ValueData.{number_data}
use Rattle.describe.specs.ParamData.{param_name, value_data, with_params, params_data}
use Rattle.describe.proofs.ValuesRead.{hex_read, digest_read, uuid_read, number_read}
use Rattle.describe.proofs.ParamOrder.{number_of, all_placed, HaveOther, AreBelow, placed_before, ascending_placed}

-- ---- single ones

pub name_read : (p : Param) → param_named (param_name p) ≡ Some (key_of p)
name_read (params.Vendor id) = refl
name_read _ = refl

pub index_read : (count i : ℕ) → i < count → i < 2 ^ 64 → index_of count (number_data i) ≡ Ok i
index_read count i lt small = rw (number_read (2 ^ 64 - 1) i (omega arith)) (grind (arith, nat_tests))

pub value_read : (scope : Scope) (p : Param) → IsParam p → IsBelow scope.count p → param_value scope (key_of p) (value_data p) ≡ Ok p
value_read scope (params.Vendor id) h below = rw (uuid_read id h) refl
value_read scope (params.Class id) h below = rw (uuid_read id h) refl
value_read scope (params.Device id) h below = rw (uuid_read id h) refl
value_read scope (params.Digest digest) h below = rw (digest_read digest h) refl
value_read scope (params.Slot n) h below = rw (number_read (2 ^ 64 - 1) n (omega arith)) refl
value_read scope (params.Strict b) h below = refl
value_read scope (params.Soft b) h below = refl
value_read scope (params.Size n) h below = rw (number_read (2 ^ 64 - 1) n (omega arith)) refl
value_read scope (params.Content bytes) h below = rw (hex_read bytes h.1) refl
value_read scope (params.Uri text) h below = refl
value_read scope (params.Source i) h below = rw (index_read scope.count i below h) refl
value_read scope (params.Args bytes) h below = rw (hex_read bytes h.1) refl

-- ---- members, in the order of their names

abbrev members_for : List Param → Members
members_for [] = no_members
members_for (q ∷ qs) = member (param_name q) (value_data q) (members_for qs)

abbrev by_name : Param → List Param → List Param
by_name p [] = p ∷ []
by_name p (q ∷ qs) = match_ordering (slice_cmp nat_cmp (param_name p) (param_name q)) (p ∷ q ∷ qs) (p ∷ q ∷ qs) (q ∷ by_name p qs)

-- names are those of one parameter
one_name : (p q : Param) → slice_cmp nat_cmp (param_name p) (param_name q) ≡ Equal → number_of p ≡ number_of q
one_name p q e =
    let same : param_name p ≡ param_name q = (bytes_eq-Decides (param_name p) (param_name q)).0 (sym (is_eq-slice_cmp (param_name p) (param_name q)) ∙ ap is_eq e) in
    ap (λ k. key_number (unwrap_or k (key_of p))) (sym (name_read p) ∙ ap param_named same ∙ name_read q)

put_here : (o : Ordering) (p q : Param) (qs : List Param) → slice_cmp nat_cmp (param_name p) (param_name q) ≡ o → number_of p ≢ number_of q
    → put (param_name p) (value_data p) (members_for qs) ≡ members_for (by_name p qs)
    → put (param_name p) (value_data p) (members_for (q ∷ qs)) ≡ members_for (by_name p (q ∷ qs))
put_here Less p q qs e other later = rw e refl
put_here Equal p q qs e other later = absurd (other (one_name p q e))
put_here Greater p q qs e other later = rw e (ap (member (param_name q) (value_data q)) later)

put_by_name : (p : Param) (qs : List Param) → HaveOther (number_of p) qs → put (param_name p) (value_data p) (members_for qs) ≡ members_for (by_name p qs)
put_by_name p [] other = refl
put_by_name p (q ∷ qs) other = put_here _ p q qs refl other.0 (put_by_name p qs other.1)

-- a property of each is kept
kept_by : (P : Param → Type 0) (o : Ordering) (p q : Param) (qs rest : List Param) → P p → P q → AllByRecursion P qs → AllByRecursion P rest
    → AllByRecursion P (match_ordering o (p ∷ q ∷ qs) (p ∷ q ∷ qs) (q ∷ rest))
kept_by P Less p q qs rest h k hs ks = (h, (k, hs))
kept_by P Equal p q qs rest h k hs ks = (h, (k, hs))
kept_by P Greater p q qs rest h k hs ks = (k, ks)

by_name_kept : (P : Param → Type 0) (p : Param) (qs : List Param) → P p → AllByRecursion P qs → AllByRecursion P (by_name p qs)
by_name_kept P p [] h hs = (h, tt)
by_name_kept P p (q ∷ qs) h hs = kept_by P (slice_cmp nat_cmp (param_name p) (param_name q)) p q qs (by_name p qs) h hs.0 hs.1 (by_name_kept P p qs h hs.1)

-- placed by its name or last, it stands at the same place
placed_by : (o : Ordering) (p q : Param) (qs rest ps : List Param) → number_of p ≢ number_of q → HaveOther (number_of p) qs
    → all_placed rest (placed_among q ps) ≡ placed_among p (all_placed qs (placed_among q ps))
    → all_placed (match_ordering o (p ∷ q ∷ qs) (p ∷ q ∷ qs) (q ∷ rest)) ps ≡ placed_among p (all_placed (q ∷ qs) ps)
placed_by Less p q qs rest ps other others later = placed_before p (q ∷ qs) ps (other, others)
placed_by Equal p q qs rest ps other others later = placed_before p (q ∷ qs) ps (other, others)
placed_by Greater p q qs rest ps other others later = later

placed_by_name : (p : Param) (qs ps : List Param) → HaveOther (number_of p) qs → all_placed (by_name p qs) ps ≡ placed_among p (all_placed qs ps)
placed_by_name p [] ps other = refl
placed_by_name p (q ∷ qs) ps other =
    placed_by (slice_cmp nat_cmp (param_name p) (param_name q)) p q qs (by_name p qs) ps other.0 other.1 (placed_by_name p qs (placed_among q ps) other.1)

-- ---- reading

abbrev IsReadable : Scope → Param → Type 0
IsReadable scope p = IsParam p × IsBelow scope.count p

members_read : (scope : Scope) (qs ps : List Param) → AllByRecursion (IsReadable scope) qs
    → members_of takes_param (record { scope = scope; list = ps }) (members_for qs) ≡ Ok (record { scope = scope; list = all_placed qs ps })
members_read scope [] ps h = refl
members_read scope (q ∷ qs) ps h = rw (name_read q, value_read scope q h.0.0 h.0.1) (members_read scope qs (placed_among q ps) h.1)

-- parameters that were put before, those that are put then, and how they are read
other_above : (n : ℕ) (p : Param) (qs : List Param) → n < number_of p → AreBelow n qs → HaveOther (number_of p) qs
other_above n p [] lt h = tt
other_above n p (q ∷ qs) lt h = ((λ e. absurd (omega (arith, e, lt, h.0))), other_above n p qs lt h.1)

below_more : (n m : ℕ) (qs : List Param) → n ≤ m → AreBelow n qs → AreBelow m qs
below_more n m [] le h = tt
below_more n m (q ∷ qs) le h = (omega (arith, le, h.0), below_more n m qs le h.1)

with_read : (scope : Scope) (n : ℕ) (ps qs : List Param) → AllByRecursion (IsReadable scope) ps → AllByRecursion (IsReadable scope) qs → AreBelow n qs → AreAbove n ps
    → members_of takes_param (record { scope = scope; list = [] }) (with_params ps (members_for qs)) ≡ Ok (record { scope = scope; list = all_placed ps (all_placed qs []) })
with_read scope n [] qs hs ks below above = members_read scope qs [] ks
with_read scope n (p ∷ ps) qs hs ks below above =
    let other = other_above n p qs above.0 below in
    let more = by_name_kept (IsReadable scope) p qs hs.0 ks in
    let lower = by_name_kept (λ q. number_of q ≤ number_of p) p qs (omega arith) (below_more n (number_of p) qs (omega (arith, above.0)) below) in
    ap (λ ms. members_of takes_param (record { scope = scope; list = [] }) (with_params ps ms)) (put_by_name p qs other)
    ∙ with_read scope (number_of p) ps (by_name p qs) hs.1 more lower above.1
    ∙ ap (λ (rs : List Param). Ok (record { scope = scope; list = all_placed ps rs })) (placed_by_name p qs [] other)

both_kept : (scope : Scope) (ps : List Param) → AllByRecursion IsParam ps → AllByRecursion (IsBelow scope.count) ps → AllByRecursion (IsReadable scope) ps
both_kept scope [] h k = tt
both_kept scope (p ∷ ps) h k = ((h.0, k.0), both_kept scope ps h.1 k.1)

pub params_read : (scope : Scope) (ps : List Param) → AllByRecursion IsParam ps → AllByRecursion (IsBelow scope.count) ps → AreAscending ps → params_of scope (params_data ps) ≡ Ok ps
params_read scope ps h k above =
    rw (with_read scope 0 ps [] (both_kept scope ps h k) tt tt above) (ap (λ (rs : List Param). Ok rs) (ascending_placed 0 [] ps tt above))
