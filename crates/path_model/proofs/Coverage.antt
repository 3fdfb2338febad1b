-- The laws of cover by indices, and of what follows.
use Rattle.std.proofs.Common.{◌≡◌, ◌≢◌, ◌<◌, ◌≤◌, ℕ, zero, suc, Bool, List, [], ◌∷◌, ◌++◌, length, take, Option, Some, None, refl, sym, ap, subst, ◌∙◌, arith, inl, inr, append_assoc, length-append}
use Rattle.std.specs.Prelude.{IfSome, slice_get}
use Rattle.std.specs.List.{AllByRecursion}
use Rattle.std.proofs.lemmas.Bool.{cases_lt}
use Rattle.std.proofs.lemmas.List.{append-nil}
use Rattle.suit_params.specs.declared.digest.Digest.{Digest}
use Rattle.path_model.specs.declared.event.Event.{Event}
use Rattle.path_model.specs.declared.event.Event.TheVariants.{Set, Tried, Matched, Missed, Wrote, Invoked, Failed}
use Rattle.path_model.specs.Safe.{WritesTo, HasMatched, IsCovered, Covered, AllCovered, EndsUncovered}
use Rattle.path_model.specs.FirstUncovered.{IsUncoveredFirst}
use Rattle.path_model.specs.Following.{CoveredFrom, SameMatches}
use Rattle.path_model.specs.CoverLaws.{MatchedAt, MatchByIndices, CoveredByIndices, AllAreCovered, CoveredByStanding, IsLastUncovered, EndsAtFirst, FirstIsOne, SameFollows, PartsCovered, SafetyIs, BadPathIs, BadPathRefutes}
use Rattle.path_model.proofs.CoverLaws.{unwritten}
use Rattle.path_model.proofs.Covering.{CoveredFrom-AllCovered, CoveredFrom-front, CoveredFrom-append}
use Rattle.path_model.proofs.Following.{CoveredFrom-same, same_append}
use Rattle.path_model.proofs.Refuting.{EndsUncovered-not_covered, IsBadPath-not_safe}

-- ---- events at indices

the_event : (e f : Event) → Some e ≡ Some f → e ≡ f
the_event e f same = cc

IsQuietAt : ℕ → List Event → Type 0
IsQuietAt c events = (i : ℕ) → slice_get events i ≢ Some (Wrote c)

quiet_at : (c : ℕ) (events : List Event) → AllByRecursion (λ event. WritesTo c event → ⊥) events → IsQuietAt c events
unfolding IsQuietAt
quiet_at c [] all i same = absurd cc
quiet_at c (event ∷ events) all zero same = subst (λ (e : Event). WritesTo c e → ⊥) (the_event event (Wrote c) same) all.0 refl
quiet_at c (event ∷ events) all (suc i) same = quiet_at c events all.1 i same

all_quiet : (c : ℕ) (events : List Event) → IsQuietAt c events → AllByRecursion (λ event. WritesTo c event → ⊥) events
unfolding IsQuietAt
all_quiet c [] quiet = tt
all_quiet c (event ∷ events) quiet = (unwritten c event (λ same. quiet 0 (ap Some same)), all_quiet c events (λ i same. quiet (suc i) same))

middle_at : (before since : List Event) (event : Event) → slice_get (before ++ event ∷ since) (length before) ≡ Some event
middle_at [] since event = refl
middle_at (first ∷ before) since event = middle_at before since event

later_at : (c : ℕ) (before since : List Event) (event : Event) → IsQuietAt c since → (later : ℕ) → length before < later → slice_get (before ++ event ∷ since) later ≢ Some (Wrote c)
unfolding IsQuietAt
later_at c [] since event quiet zero lt same = absurd (omega arith)
later_at c [] since event quiet (suc i) lt same = quiet i same
later_at c (first ∷ before) since event quiet zero lt same = absurd (omega arith)
later_at c (first ∷ before) since event quiet (suc i) lt same = later_at c before since event quiet i (omega arith) same

matched_from : (events : List Event) (index c : ℕ) (d : Digest) (s : Option ℕ) → slice_get events index ≡ Some (Matched c d s)
    → ((later : ℕ) → index < later → slice_get events later ≢ Some (Wrote c)) → HasMatched events c d s
unfolding IsQuietAt
matched_from [] index c d s is quiet = absurd cc
matched_from (event ∷ events) zero c d s is quiet = record {
  before = [];
  since = events;
  is = ap (λ (e : Event). e ∷ events) (the_event event (Matched c d s) is);
  unwritten = all_quiet c events (λ i same. quiet (suc i) (omega arith) same);
}
matched_from (event ∷ events) (suc index) c d s is quiet =
    let h = matched_from events index c d s is (λ later lt same. quiet (suc later) (omega arith) same) in
    record { before = event ∷ h.before; since = h.since; is = ap (λ (es : List Event). event ∷ es) h.is; unwritten = h.unwritten }

pub match_by_indices : MatchByIndices
unfolding IsQuietAt
match_by_indices events c d s = (
  λ h. subst (λ (es : List Event). MatchedAt es c d s) (sym h.is) (record {
    index = length h.before;
    is = middle_at h.before h.since (Matched c d s);
    unwritten = λ later lt same. later_at c h.before h.since (Matched c d s) (quiet_at c h.since h.unwritten) later lt same;
  }),
  λ at. matched_from events at.index c d s at.is at.unwritten,
)

-- ---- cover by indices

covered_to : (o : Option Event) (past : List Event) → IfSome o (IsCovered past) → (c : ℕ) (d : Digest) (s : Option ℕ) (passed : Bool) → o ≡ Some (Invoked c (Some d) s passed) → MatchedAt past c d s
covered_to o past h c d s passed is =
    let known : IsCovered past (Invoked c (Some d) s passed) = subst (λ (x : Option Event). IfSome x (IsCovered past)) is h in
    (match_by_indices past c d s).0 known

covered_digest : (o : Option Event) (past : List Event) → IfSome o (IsCovered past) → (c : ℕ) (s : Option ℕ) (passed : Bool) → o ≢ Some (Invoked c None s passed)
covered_digest o past h c s passed is = subst (λ (x : Option Event). IfSome x (IsCovered past)) is h

covered_of : (o : Option Event) (past : List Event) → ((c : ℕ) (s : Option ℕ) (passed : Bool) → o ≢ Some (Invoked c None s passed))
    → ((c : ℕ) (d : Digest) (s : Option ℕ) (passed : Bool) → o ≡ Some (Invoked c (Some d) s passed) → MatchedAt past c d s) → IfSome o (IsCovered past)
covered_of None past digest matched = tt
covered_of (Some (Set c param)) past digest matched = tt
covered_of (Some (Tried c kind passed)) past digest matched = tt
covered_of (Some (Matched c d s)) past digest matched = tt
covered_of (Some (Missed c)) past digest matched = tt
covered_of (Some (Wrote c)) past digest matched = tt
covered_of (Some (Invoked c None s passed)) past digest matched = digest c s passed refl
covered_of (Some (Invoked c (Some d) s passed)) past digest matched = (match_by_indices past c d s).1 (matched c d s passed refl)
covered_of (Some (Failed place)) past digest matched = tt

pub covered_by_indices : CoveredByIndices
covered_by_indices events i = (
  λ h. record {
    digest = λ c s passed is. covered_digest (slice_get events i) (take i events) h c s passed is;
    matched = λ c d s passed is. covered_to (slice_get events i) (take i events) h c d s passed is;
  },
  λ h. covered_of (slice_get events i) (take i events) h.digest h.matched,
)

pub all_are_covered : AllAreCovered
all_are_covered events = (λ all i. all i, λ all i. all i)

from_each : (past events : List Event) → ((i : ℕ) → IfSome (slice_get events i) (IsCovered (past ++ take i events))) → CoveredFrom past events
from_each past [] each = tt
from_each past (event ∷ events) each = (
  subst (λ (p : List Event). IsCovered p event) (append-nil past) (each 0),
  from_each (past ++ event ∷ []) events (λ i.
      subst (λ (p : List Event). IfSome (slice_get events i) (IsCovered p)) (sym (append_assoc past (event ∷ []) (take i events))) (each (suc i))),
)

pub covered_by_standing : CoveredByStanding
covered_by_standing events = (λ all. from_each [] events all, λ from. CoveredFrom-AllCovered events from)

-- ---- the first uncovered invoke, at the end

front_at : (front more : List Event) (i : ℕ) → i < length front → slice_get (front ++ more) i ≡ slice_get front i
front_at [] more i lt = absurd (omega arith)
front_at (event ∷ front) more zero lt = refl
front_at (event ∷ front) more (suc i) lt = front_at front more i (omega arith)

front_take : (front more : List Event) (i : ℕ) → i ≤ length front → take i (front ++ more) ≡ take i front
front_take front more zero le = refl
front_take [] more (suc i) le = absurd (omega arith)
front_take (event ∷ front) more (suc i) le = ap (λ (es : List Event). event ∷ es) (front_take front more i (omega arith))

take_all : (front more : List Event) → take (length front) (front ++ more) ≡ front
take_all [] more = refl
take_all (event ∷ front) more = ap (λ (es : List Event). event ∷ es) (take_all front more)

past_end : (events : List Event) (i : ℕ) → length events ≤ i → slice_get events i ≡ None
past_end [] i le = refl
past_end (event ∷ events) zero le = absurd (omega arith)
past_end (event ∷ events) (suc i) le = past_end events i (omega arith)

IsCoveredIn : Option Event → List Event → Type 0
IsCoveredIn o past = IfSome o (IsCovered past)

front_same : (front more : List Event) (i : ℕ) → i < length front → Covered (front ++ more) i ≡ Covered front i
unfolding IsCoveredIn
front_same front more i lt =
    ap (λ (o : Option Event). IsCoveredIn o (take i (front ++ more))) (front_at front more i lt)
    ∙ ap (λ (past : List Event). IsCoveredIn (slice_get front i) past) (front_take front more i (omega arith))

record HasLast (events : List Event) (index : ℕ) : Type 0 where
  before : List Event
  last : Event
  is : events ≡ before ++ last ∷ []
  there : length before ≡ index

has_last : (events : List Event) (index : ℕ) → length events ≡ suc index → HasLast events index
has_last [] index is = absurd (omega arith)
has_last (event ∷ []) index is = record { before = []; last = event; is = refl; there = omega arith }
has_last (event ∷ next ∷ events) zero is = absurd (omega arith)
has_last (event ∷ next ∷ events) (suc index) is =
    let rest = has_last (next ∷ events) index (omega arith) in
    record { before = event ∷ rest.before; last = rest.last; is = ap (λ (es : List Event). event ∷ es) rest.is; there = ap suc rest.there }

to_last : (events : List Event) → EndsUncovered events → IsLastUncovered events
to_last events ends =
    let within : length events ≡ suc (length ends.before) = omega (arith, ap length ends.is, length-append ends.before (ends.last ∷ [])) in
    record {
      index = length ends.before;
      last = within;
      first = record {
        within = omega arith;
        uncovered = λ covered. EndsUncovered-not_covered events ends covered;
        earlier = λ i lt.
            subst (λ (es : List Event). Covered es i) (sym ends.is)
            (subst (λ (P : Type 0). P) (sym (front_same ends.before (ends.last ∷ []) i lt)) (ends.covered i));
      };
    }

module _ (events : List Event) (ends : IsLastUncovered events) where
  parts : HasLast events ends.index
  parts = has_last events ends.index ends.last

  before_covered : AllCovered parts.before
  unfolding IsCoveredIn
  before_covered i =
      elim (cases_lt i (length parts.before)) [
        | inl lt ↦
            let lt' : i < ends.index = subst (λ (n : ℕ). i < n) parts.there lt in
            subst (λ (P : Type 0). P) (front_same parts.before (parts.last ∷ []) i lt) (subst (λ (es : List Event). Covered es i) parts.is (ends.first.earlier i lt'))
        | inr le ↦ subst (λ (o : Option Event). IsCoveredIn o (take i parts.before)) (sym (past_end parts.before i le)) tt
      ]

  last_uncovered : IsCovered parts.before parts.last → ⊥
  unfolding IsCoveredIn
  last_uncovered covered =
      let n = length parts.before in
      let here : IsCoveredIn (slice_get (parts.before ++ parts.last ∷ []) n) (take n (parts.before ++ parts.last ∷ [])) =
      subst (λ (o : Option Event). IsCoveredIn o (take n (parts.before ++ parts.last ∷ []))) (sym (middle_at parts.before [] parts.last))
      (subst (λ (past : List Event). IsCovered past parts.last) (sym (take_all parts.before (parts.last ∷ []))) covered)
      in
      ends.first.uncovered (subst (λ (es : List Event). Covered es ends.index) (sym parts.is)
      (subst (λ (k : ℕ). Covered (parts.before ++ parts.last ∷ []) k) parts.there here))

  from_last : EndsUncovered events
  from_last = record { before = parts.before; last = parts.last; is = parts.is; covered = before_covered; uncovered = last_uncovered }

pub ends_at_first : EndsAtFirst
ends_at_first events = (λ ends. to_last events ends, λ ends. from_last events ends)

no_earlier : (events : List Event) (i j : ℕ) → IsUncoveredFirst events i → IsUncoveredFirst events j → i < j → ⊥
no_earlier events i j first other lt = first.uncovered (other.earlier i lt)

one_index : (events : List Event) (i j : ℕ) → IsUncoveredFirst events i → IsUncoveredFirst events j → i ≡ j
one_index events i j first other =
    elim (cases_lt i j) [
      | inl lt ↦ absurd (no_earlier events i j first other lt)
      | inr le ↦ elim (cases_lt j i) [
        | inl gt ↦ absurd (no_earlier events j i other first gt)
        | inr ge ↦ omega arith
      ]
    ]

pub first_is_one : FirstIsOne
first_is_one events None None first other = refl
first_is_one events None (Some j) first other = absurd (other.uncovered (first j))
first_is_one events (Some i) None first other = absurd (first.uncovered (other i))
first_is_one events (Some i) (Some j) first other = ap Some (one_index events i j first other)

-- ---- what follows

turned : (a b : List Event) → SameMatches a b → SameMatches b a
turned a b same c d s = ((same c d s).1, (same c d s).0)

pub same_follows : SameFollows
same_follows a b more same = record { covered = (λ h. CoveredFrom-same a b more same h, λ h. CoveredFrom-same b a more (turned a b same) h); matches = same_append a b more same }

back_covered : (past front back : List Event) → CoveredFrom past (front ++ back) → CoveredFrom (past ++ front) back
back_covered past [] back h = subst (λ (p : List Event). CoveredFrom p back) (sym (append-nil past)) h
back_covered past (event ∷ front) back h =
    subst (λ (p : List Event). CoveredFrom p back) (append_assoc past (event ∷ []) front) (back_covered (past ++ event ∷ []) front back h.1)

pub parts_covered : PartsCovered
parts_covered past front back = (
  λ h. (CoveredFrom-front past front back h, back_covered past front back h),
  λ h. CoveredFrom-append past front back h.0 h.1,
)

pub safety_is : SafetyIs
safety_is plan = (λ safe ids es are path. safe.covered ids es are path, λ all. record { covered = all })

pub bad_path_is : BadPathIs
bad_path_is plan bad = (λ is. (is.identities, is.path, is.ends), λ parts. record { identities = parts.0; path = parts.1; ends = parts.2 })

pub bad_path_refutes : BadPathRefutes
bad_path_refutes plan bad is safe = IsBadPath-not_safe plan bad is safe
