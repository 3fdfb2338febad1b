-- Covered invokes, along a list of events.
use Rattle.std.proofs.Common.{ℕ, zero, suc, List, [], ◌∷◌, ◌++◌, take, Option, sym, ap, subst, ◌∙◌, append_assoc}
use Rattle.std.specs.Prelude.{IfSome, slice_get}
use Rattle.std.specs.List.{AllByRecursion}
use Rattle.std.proofs.lemmas.List.{append-nil}
use Rattle.path_model.specs.declared.event.Event.{Event}
use Rattle.path_model.specs.declared.event.Event.TheVariants.{Matched}
use Rattle.suit_params.specs.declared.digest.Digest.{Digest}
use Rattle.path_model.specs.Safe.{WritesTo, HasMatched, IsCovered, AllCovered}
use Rattle.path_model.specs.Following.{CoveredFrom}

at_each : (past events : List Event) → CoveredFrom past events → (i : ℕ) → IfSome (slice_get events i) (IsCovered (past ++ take i events))
at_each past [] h i = tt
at_each past (e ∷ es) h zero = subst (λ (p : List Event). IsCovered p e) (sym (append-nil past)) h.0
at_each past (e ∷ es) h (suc i) =
    subst (λ (p : List Event). IfSome (slice_get es i) (IsCovered p)) (append_assoc past (e ∷ []) (take i es))
    (at_each (past ++ e ∷ []) es h.1 i)

pub CoveredFrom-AllCovered : (events : List Event) → CoveredFrom [] events → AllCovered events
CoveredFrom-AllCovered events h i = at_each [] events h i

pub CoveredFrom-front : (past a b : List Event) → CoveredFrom past (a ++ b) → CoveredFrom past a
CoveredFrom-front past [] b h = tt
CoveredFrom-front past (e ∷ a) b h = (h.0, CoveredFrom-front (past ++ e ∷ []) a b h.1)

pub CoveredFrom-append : (past a b : List Event) → CoveredFrom past a → CoveredFrom (past ++ a) b → CoveredFrom past (a ++ b)
CoveredFrom-append past [] b h k = subst (λ (p : List Event). CoveredFrom p b) (append-nil past) k
CoveredFrom-append past (e ∷ a) b h k =
    (h.0, CoveredFrom-append (past ++ e ∷ []) a b h.1 (subst (λ (p : List Event). CoveredFrom p b) (sym (append_assoc past (e ∷ []) a)) k))

-- ---- matches that stand

abbrev pub IsQuiet : ℕ → List Event → Type 0
IsQuiet component events = AllByRecursion (λ event. WritesTo component event → ⊥) events

all_append : {A : Type 0} (P : A → Type 0) (xs ys : List A) → AllByRecursion P xs → AllByRecursion P ys → AllByRecursion P (xs ++ ys)
all_append P [] ys h k = k
all_append P (x ∷ xs) ys h k = (h.0, all_append P xs ys h.1 k)

-- a match still stands after events that write nothing to the component
pub HasMatched-append : (events more : List Event) (c : ℕ) (d : Digest) (s : Option ℕ) → IsQuiet c more → HasMatched events c d s → HasMatched (events ++ more) c d s
HasMatched-append events more c d s quiet h = record {
  before = h.before;
  since = h.since ++ more;
  is = ap (λ (es : List Event). es ++ more) h.is ∙ append_assoc h.before (Matched c d s ∷ h.since) more;
  unwritten = all_append (λ event. WritesTo c event → ⊥) h.since more h.unwritten quiet;
}
