-- The parameters of a description ascend, and their sources are below the number of components.
use Rattle.std.proofs.Common.{◌≡◌, ◌<◌, ◌≤◌, ℕ, true, List, [], ◌∷◌, Option, Some, None, Ordering, Less, Equal, Greater, refl, sym, subst, arith}
use Rattle.std.specs.Prelude.{nat_lt, nat_le}
use Rattle.std.specs.List.{AllByRecursion}
use Rattle.std.specs.Ordering.{match_ordering}
use Rattle.std.proofs.lemmas.Bool.Decides.{nat_tests}
use Rattle.std.proofs.lemmas.Cmp.{ranked}
use Rattle.serde_json.specs.Data.{Data}
use Rattle.json_fields.specs.Values.{number_up_to}
use Rattle.suit_params.specs.declared.param.Param.{Param}
use Rattle.suit_params.specs.declared.param.ParamKey.{ParamKey}
use Rattle.suit_params.specs.declared.param.ParamKey.TheVariants as keys
use Rattle.suit_params.specs.ParamKeys.{key_of, key_number}
use Rattle.suit_params.specs.ParamMaking.{IsBelow}
use Rattle.suit_params.specs.ParamLaws.{AreAbove, AreAscending}
use Rattle.author.specs.Scope.{Scope}
use Rattle.author.specs.ParamNames.{param_named}
use Rattle.author.specs.ParamValues.{index_of, param_value, param_order, placed_among, ParamsSoFar, takes_named, takes_param, params_of}
use Rattle.author.proofs.Keeps.{Holds, WasRead, WasFlawed, holds_bind, holds_then, holds_if, holds_object}

-- ---- numbers

below : (i n : ℕ) → nat_lt i n ≡ true → i < n
below i n e = grind (arith, nat_tests)

at_most : (i n : ℕ) → nat_le i n ≡ true → i ≤ n
at_most i n e = grind (arith, nat_tests)

pub number_holds : (limit : ℕ) (d : Data) → Holds (λ n. n ≤ limit) (number_up_to limit d)
number_holds limit d = holds_then (λ n. n ≤ limit) _ _ (λ n. holds_if (λ k. k ≤ limit) (nat_le n limit) n _ (at_most n limit))

pub index_holds : (count : ℕ) (d : Data) → Holds (λ i. i < count) (index_of count d)
index_holds count d = holds_then (λ i. i < count) _ _ (λ i. holds_if (λ k. k < count) (nat_lt i count) i _ (below i count))

-- ---- a parameter in its place

abbrev number : Param → ℕ
number p = key_number (key_of p)

positive : (key : ParamKey) → 0 < key_number key
positive keys.Vendor = omega arith
positive _ = omega arith

above_by_order : (low : ℕ) (p q : Param) (qs : List Param) (o : Ordering) → o ≡ param_order p q → low < number p → AreAbove low (q ∷ qs)
    → (number q < number p → AreAbove (number q) (placed_among p qs)) → AreAbove low (match_ordering o (p ∷ q ∷ qs) (p ∷ qs) (q ∷ placed_among p qs))
above_by_order low p q qs Less e over above later = (over, (ranked (number p) (number q) Less e, above.1))
above_by_order low p q qs Equal e over above later = (over, subst (λ (n : ℕ). AreAbove n qs) (sym (ranked (number p) (number q) Equal e)) above.1)
above_by_order low p q qs Greater e over above later = (above.0, later (ranked (number p) (number q) Greater e))

placed_above : (low : ℕ) (p : Param) (qs : List Param) → low < number p → AreAbove low qs → AreAbove low (placed_among p qs)
placed_above low p [] over above = (over, tt)
placed_above low p (q ∷ qs) over above = above_by_order low p q qs (param_order p q) refl over above (λ under. placed_above (number q) p qs under above.1)

all_by_order : (P : Param → Type 0) (p q : Param) (qs : List Param) (o : Ordering) → P p → AllByRecursion P (q ∷ qs) → AllByRecursion P (placed_among p qs)
    → AllByRecursion P (match_ordering o (p ∷ q ∷ qs) (p ∷ qs) (q ∷ placed_among p qs))
all_by_order P p q qs Less h all later = (h, all)
all_by_order P p q qs Equal h all later = (h, all.1)
all_by_order P p q qs Greater h all later = (all.0, later)

placed_all : (P : Param → Type 0) (p : Param) (qs : List Param) → P p → AllByRecursion P qs → AllByRecursion P (placed_among p qs)
placed_all P p [] h all = (h, tt)
placed_all P p (q ∷ qs) h all = all_by_order P p q qs (param_order p q) h all (placed_all P p qs h all.1)

-- ---- objects of parameters

param_holds : (scope : Scope) (key : ParamKey) (d : Data) → Holds (IsBelow scope.count) (param_value scope key d)
param_holds scope keys.Vendor d = holds_then (IsBelow scope.count) _ _ (λ x. WasRead _ tt)
param_holds scope keys.Class d = holds_then (IsBelow scope.count) _ _ (λ x. WasRead _ tt)
param_holds scope keys.Device d = holds_then (IsBelow scope.count) _ _ (λ x. WasRead _ tt)
param_holds scope keys.Digest d = holds_then (IsBelow scope.count) _ _ (λ x. WasRead _ tt)
param_holds scope keys.Slot d = holds_then (IsBelow scope.count) _ _ (λ x. WasRead _ tt)
param_holds scope keys.Strict d = holds_then (IsBelow scope.count) _ _ (λ x. WasRead _ tt)
param_holds scope keys.Soft d = holds_then (IsBelow scope.count) _ _ (λ x. WasRead _ tt)
param_holds scope keys.Size d = holds_then (IsBelow scope.count) _ _ (λ x. WasRead _ tt)
param_holds scope keys.Content d = holds_then (IsBelow scope.count) _ _ (λ x. WasRead _ tt)
param_holds scope keys.Uri d = holds_then (IsBelow scope.count) _ _ (λ x. WasRead _ tt)
param_holds scope keys.Source d = holds_bind (λ i. i < scope.count) (IsBelow scope.count) _ _ (index_holds scope.count d) (λ i h. WasRead _ h)
param_holds scope keys.Args d = holds_then (IsBelow scope.count) _ _ (λ x. WasRead _ tt)

abbrev pub AreGood : ℕ → List Param → Type 0
AreGood count ps = AllByRecursion (IsBelow count) ps × AreAscending ps

module _ (scope : Scope) where
  abbrev SoFar : ParamsSoFar → Type 0
  SoFar t = (t.scope.count ≡ scope.count) × AreGood scope.count t.list

  one_more : (t : ParamsSoFar) (p : Param) → SoFar t → IsBelow t.scope.count p → SoFar (record t { list = placed_among p t.list })
  one_more t p h b =
      (h.0, (placed_all (IsBelow scope.count) p t.list (subst (λ (n : ℕ). IsBelow n p) h.0 b) h.1.0, placed_above 0 p t.list (positive (key_of p)) h.1.1))

  takes_hold : (t : ParamsSoFar) (name : Option ParamKey) (d : Data) → SoFar t → Holds SoFar (takes_named t name d)
  takes_hold t None d h = WasFlawed _
  takes_hold t (Some key) d h = holds_bind (IsBelow t.scope.count) SoFar (param_value t.scope key d) _ (param_holds t.scope key d) (λ p b. WasRead _ (one_more t p h b))

  pub params_hold : (d : Data) → Holds (AreGood scope.count) (params_of scope d)
  params_hold d =
      holds_bind SoFar (AreGood scope.count) _ _
      (holds_object SoFar takes_param (λ t k x h. takes_hold t (param_named k) x h) d (record { scope = scope; list = [] }) (refl, (tt, tt)))
      (λ t h. WasRead _ h.1)
