-- What is run next, and the rest after that.
use Rattle.std.proofs.Common.{◌≡◌, ℕ, ◌+◌, ◌<◌, List, [], ◌∷◌, ◌++◌, length, get_or, drop, refl, sym, ap, ◌∙◌, subst, inl, inr}
use Rattle.suit_commands.specs.declared.command.Step.{Step}
use Rattle.suit_commands.specs.Tree.{CommandTree, TryEach, SequenceTree, BranchesTree}
use Rattle.suit_commands.specs.View.{sequence_tree, command_tree}
use Rattle.path_model.specs.declared.event.Event.{Event}
use Rattle.path_model.specs.Behaviour.{State, Ending, Done, Behaviour, IsFailure, Then, Each}
use Rattle.path_model.specs.Path.{start_state}
use Rattle.path_model.specs.Runs.{Tries}
use Rattle.path_checker.specs.Exploring.{Course, Kept, kept_of, state_of}
use Rattle.path_checker.specs.Inner.{restarted}
use Rattle.path_checker.specs.Rests.{Later, OfPart, OfSteps, OfTries, OfLeave, RunsRest, RunsThen, TriesAt, TriesThen, AreFew}
use Rattle.path_checker.proofs.Besides.{same_state}
use Rattle.path_checker.proofs.Exploring.{then_course}
use Rattle.path_checker.specs.Going.{GoesOn}
use Rattle.path_checker.specs.Steps.{TriesIn}
use Rattle.path_checker.proofs.Going.{GoesOn-next, GoesOn-moved, Covers-left, Uncovers-left}
use Rattle.path_checker.proofs.Walking.{does_course}

-- ---- what follows at once, from one state

module _ (rest behind : List Later) (count : ℕ) (k : Kept) where
  pub GoesOn-part : (sequence : SequenceTree) (to : Kept) → rest ≡ OfPart sequence ∷ behind → to ≡ restarted k → GoesOn (RunsRest rest count) (k ∷ []) (RunsThen sequence behind count) (to ∷ [])
  GoesOn-part sequence to is begun =
      subst (λ (r : List Later). GoesOn (RunsRest r count) (k ∷ []) (RunsThen sequence behind count) (to ∷ [])) (sym is)
      (GoesOn-moved (RunsRest (OfPart sequence ∷ behind) count) (RunsThen sequence behind count) k (start_state k.state) (to ∷ []) (ap (λ (x : Kept). x ∷ []) begun) (λ ids es e r. r) (λ ids es p r. r))

  pub GoesOn-steps : (sequence : SequenceTree) → rest ≡ OfSteps sequence ∷ behind → GoesOn (RunsRest rest count) (k ∷ []) (RunsThen sequence behind count) (k ∷ [])
  GoesOn-steps sequence is =
      subst (λ (r : List Later). GoesOn (RunsRest r count) (k ∷ []) (RunsThen sequence behind count) (k ∷ [])) (sym is)
      (GoesOn-moved (RunsRest (OfSteps sequence ∷ behind) count) (RunsThen sequence behind count) k k.state (k ∷ []) refl (λ ids es e r. r) (λ ids es p r. r))

  pub GoesOn-leave : (selection : List ℕ) (soft : _) (to : Kept) → rest ≡ OfLeave selection soft ∷ behind → to ≡ kept_of k.facts k.events (state_of k.state.parameters selection soft) → GoesOn (RunsRest rest count) (k ∷ []) (RunsRest behind count) (to ∷ [])
  GoesOn-leave selection soft to is left =
      subst (λ (r : List Later). GoesOn (RunsRest r count) (k ∷ []) (RunsRest behind count) (to ∷ [])) (sym is)
      (GoesOn-moved (RunsRest (OfLeave selection soft ∷ behind) count) (RunsRest behind count) k (state_of k.state.parameters selection soft) (to ∷ []) (ap (λ (x : Kept). x ∷ []) left) (λ ids es e r. r) (λ ids es p r. r))

-- ---- a command that is a try each

module _ (steps : List Step) (i count : ℕ) (step : Step) (lt : i < length steps) (is : step ≡ get_or steps i step) (rest : List Later) (whole : Course) (from now : List Kept)
    (g : GoesOn whole from (RunsThen (sequence_tree (drop i steps)) rest count) now) where
  pub GoesOn-tries : (branches : BranchesTree) (place : ℕ) → command_tree step.command ≡ TryEach branches → place ≡ step.place
      → GoesOn whole from (TriesThen branches place (OfSteps (sequence_tree (drop (i + 1) steps)) ∷ rest) count) now
  GoesOn-tries branches place tries at =
      let behind : Course = RunsThen (sequence_tree (drop (i + 1) steps)) rest count in
      subst (λ (p : ℕ). GoesOn whole from (then_course (does_course (TryEach branches) count p) behind) now) (sym at)
      (subst (λ (c : CommandTree). GoesOn whole from (then_course (does_course c count step.place) behind) now) tries (GoesOn-next steps i count step lt is (RunsRest rest count) whole from now g))

-- ---- a try each at one component after another

module _ (branches : BranchesTree) (place : ℕ) (components : List ℕ) (behind : List Later) (count : ℕ) where
  abbrev tries_rest : Course
  tries_rest = RunsRest (OfTries branches place components ∷ behind) count

  -- the components that are selected
  pub GoesOn-each : (k : Kept) → components ≡ k.state.selection → GoesOn (TriesThen branches place behind count) (k ∷ []) tries_rest (k ∷ [])
  GoesOn-each k is =
      subst (λ (cs : List ℕ). GoesOn (TriesThen branches place behind count) (k ∷ []) (RunsRest (OfTries branches place cs ∷ behind) count) (k ∷ [])) (sym is)
      (GoesOn-moved (TriesThen branches place behind count) (RunsRest (OfTries branches place k.state.selection ∷ behind) count) k k.state (k ∷ []) refl (λ ids es e r. r) (λ ids es p r. r))

  -- the first component
  pub GoesOn-first : (c : ℕ) (left : List ℕ) (later : List Later) (from : List Kept) → components ≡ c ∷ left → later ≡ OfTries branches place left ∷ behind → GoesOn tries_rest from (TriesAt branches place c later count) from
  GoesOn-first c left later from is later_is =
      let here : Course = TriesIn branches count place c in
      let others : Course = λ ids. Each (λ d. Tries branches ids count place d) left in
      subst (λ (cs : List ℕ). GoesOn (RunsRest (OfTries branches place cs ∷ behind) count) from (TriesAt branches place c later count) from) (sym is)
      (subst (λ (l : List Later). GoesOn (RunsRest (OfTries branches place (c ∷ left) ∷ behind) count) from (TriesAt branches place c l count) from) (sym later_is) (record {
        covers = λ h. Covers-left here others (RunsRest behind count) from h;
        uncovers = λ facts events u. Uncovers-left here others (RunsRest behind count) from facts events u;
      }))

-- a behaviour after one that does nothing
behind_only : (second : Behaviour) (s : State) (es : List Event) (e : Ending) → Then (λ t x y. (x ≡ []) × (y ≡ Done t)) second s es e → second s es e
behind_only second s es e (inl (f, r)) = absurd (subst IsFailure r.1 f)
behind_only second s es e (inr (m, x, y, is, r, q)) =
    subst (λ (t : List Event). second s t e) (sym (is ∙ ap (λ (t : List Event). t ++ y) r.0)) (subst (λ (t : State). second t y e) (same_state m s r.1) q)

-- no component is left
pub GoesOn-at_none : (branches : BranchesTree) (place : ℕ) (components : List ℕ) (behind : List Later) (count : ℕ) (k : Kept) → components ≡ [] → GoesOn (RunsRest (OfTries branches place components ∷ behind) count) (k ∷ []) (RunsRest behind count) (k ∷ [])
GoesOn-at_none branches place components behind count k is =
    subst (λ (cs : List ℕ). GoesOn (RunsRest (OfTries branches place cs ∷ behind) count) (k ∷ []) (RunsRest behind count) (k ∷ [])) (sym is)
    (GoesOn-moved (RunsRest (OfTries branches place [] ∷ behind) count) (RunsRest behind count) k k.state (k ∷ []) refl (λ ids es e r. behind_only (RunsRest behind count ids) k.state es e r) (λ ids es p r. inr (k.state, [], es, refl, (refl, refl), r)))

-- ---- few components

pub few_popped : (now rest : List Kept) (k : Kept) → now ≡ rest ++ k ∷ [] → AreFew now → AreFew rest × AreFew (k ∷ [])
few_popped now rest k is all = parted rest (subst AreFew is all)
  where
    parted : (ks : List Kept) → AreFew (ks ++ k ∷ []) → AreFew ks × AreFew (k ∷ [])
    parted [] few = (tt, few)
    parted (x ∷ ks) few = let y = parted ks few.1 in ((few.0, y.0), y.1)
