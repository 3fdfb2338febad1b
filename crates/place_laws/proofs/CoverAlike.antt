-- Events that are the same but for places are covered alike.
use Rattle.std.proofs.Common.{◌≡◌, ℕ, List, [], ◌∷◌, ◌++◌, refl, sym, ap, subst, ◌∙◌}
use Rattle.path_model.specs.declared.event.Event.{Event}
use Rattle.path_model.specs.declared.event.Event.TheVariants.{Failed}
use Rattle.path_model.specs.Following.{CoveredFrom, SameMatches}
use Rattle.path_model.specs.Safe.{AllCovered, EndsUncovered}
use Rattle.path_model.proofs.Coverage.{covered_by_standing, parts_covered}
use Rattle.path_model.proofs.CoverLaws.{others_leave}
use Rattle.path_model.proofs.Following.{CoveredFrom-same, same_after, same_matches}
use Rattle.place_laws.proofs.Alike.{EventsAlike, NoEvents, EventThen, FailedThen, PartsAlike, events_split, events_up}

-- a failure leaves what matched
fail_leaves : (hs : List Event) (p : ℕ) → SameMatches (hs ++ Failed p ∷ []) hs
fail_leaves hs p c d s = others_leave hs (Failed p) c d s (λ same. absurd cc) (λ same. absurd cc)

both_fail : (hs bs : List Event) (p q : ℕ) → SameMatches hs bs → SameMatches (hs ++ Failed p ∷ []) (bs ++ Failed q ∷ [])
both_fail hs bs p q same c d s =
    (λ h. (fail_leaves bs q c d s).1 ((same c d s).0 ((fail_leaves hs p c d s).0 h)), λ h. (fail_leaves hs p c d s).1 ((same c d s).1 ((fail_leaves bs q c d s).0 h)))

covered_alike : (hs bs es fs : List Event) → SameMatches hs bs → EventsAlike es fs → CoveredFrom hs es → CoveredFrom bs fs
covered_alike hs bs es fs same NoEvents h = tt
covered_alike hs bs es fs same (EventThen e xs ys more) h =
    ((CoveredFrom-same hs bs (e ∷ []) same (h.0, tt)).0, covered_alike (hs ++ e ∷ []) (bs ++ e ∷ []) xs ys (same_after hs bs e same) more h.1)
covered_alike hs bs es fs same (FailedThen p q xs ys more) h =
    (tt, covered_alike (hs ++ Failed p ∷ []) (bs ++ Failed q ∷ []) xs ys (both_fail hs bs p q same) more h.1)

pub all_covered_alike : (es fs : List Event) → EventsAlike es fs → AllCovered es → AllCovered fs
all_covered_alike es fs alike all =
    (covered_by_standing fs).1 (covered_alike [] [] es fs (same_matches []) alike ((covered_by_standing es).0 all))

-- ---- lists that end in their first uncovered invoke

none_alike : (fs : List Event) → EventsAlike [] fs → fs ≡ []
none_alike fs NoEvents = refl

one_alike : (e : Event) (fs : List Event) → EventsAlike (e ∷ []) fs → (f : Event) × (fs ≡ f ∷ [])
one_alike e fs (EventThen x xs ys more) = (e, ap (λ (zs : List Event). e ∷ zs) (none_alike ys more))
one_alike e fs (FailedThen p q xs ys more) = (Failed q, ap (λ (zs : List Event). Failed q ∷ zs) (none_alike ys more))

module _ (es fs : List Event) (alike : EventsAlike es fs) (ends : EndsUncovered es) where
  abbrev known : List Event
  known = ends.before ++ ends.last ∷ []

  known_alike : EventsAlike known fs
  known_alike = subst (λ (xs : List Event). EventsAlike xs fs) ends.is alike

  parts : PartsAlike ends.before (ends.last ∷ []) fs
  parts = events_split ends.before (ends.last ∷ []) fs known_alike

  front_covered : AllCovered parts.front
  front_covered = all_covered_alike ends.before parts.front parts.front_alike ends.covered

  back_uncovered : CoveredFrom parts.front parts.back → ⊥
  back_uncovered h =
      let whole : CoveredFrom [] (parts.front ++ parts.back) = (parts_covered [] parts.front parts.back).1 ((covered_by_standing parts.front).0 front_covered, h) in
      let all : CoveredFrom [] fs = subst (CoveredFrom []) (sym parts.is) whole in
      let before : CoveredFrom [] known = covered_alike [] [] fs known (same_matches []) (events_up known fs known_alike) all in
      ends.uncovered ((parts_covered [] ends.before (ends.last ∷ [])).0 before).1.0

  pub uncovered_alike : EndsUncovered fs
  uncovered_alike =
      let last = one_alike ends.last parts.back parts.back_alike in
      record {
        before = parts.front;
        last = last.0;
        is = parts.is ∙ ap (λ (xs : List Event). parts.front ++ xs) last.1;
        covered = front_covered;
        uncovered = λ h. back_uncovered (subst (CoveredFrom parts.front) (sym last.1) (h, tt));
      }
