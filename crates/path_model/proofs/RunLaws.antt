-- The laws of overrides, sequences, run sequence and try each.
use Rattle.std.proofs.Common.{◌≡◌, ◌≢◌, ℕ, Bool, true, false, List, [], ◌∷◌, ◌++◌, refl, sym, ap, subst, ◌∙◌, inl, inr}
use Rattle.std.proofs.lemmas.List.{append-nil}
use Rattle.suit_params.specs.declared.param.Param.{Param}
use Rattle.suit_params.specs.declared.param.Param.TheVariants as params
use Rattle.suit_params.specs.declared.param.ParamKey.TheVariants as keys
use Rattle.path_model.specs.declared.event.Event.{Event}
use Rattle.path_model.specs.declared.event.Event.TheVariants.{Set}
use Rattle.suit_params.specs.ParamKeys.{key_of}
use Rattle.suit_params.specs.InForce.{with_param}
use Rattle.suit_commands.specs.Tree.{TryEach, NoBranches, BranchThen, NullThen}
use Rattle.path_model.specs.Behaviour.{State, Ending, Done, Condition, Directive, Behaviour, EachSelected, Each}
use Rattle.path_model.specs.Directives.{set_events, soft_after, after_override}
use Rattle.path_model.specs.Runs.{entry_state, after_run, RunsInner, FailsSoftly, after_branch, TriesBranch, Runs, Does, Tries}
use Rattle.path_model.specs.Turns.{Course}
use Rattle.path_model.specs.RunLaws.{OverridesNothing, OverridesStep, SequenceRules, within, RunEnds, RunSequenceRules, BranchEnds, BranchesRules, LastBranchRules}
use Rattle.path_model.proofs.Turns.{of_then, to_then}

-- ---- overrides

set_events-append : (c : ℕ) (list : List Param) (param : Param) → set_events c (list ++ param ∷ []) ≡ set_events c list ++ Set c param ∷ []
set_events-append c [] param = refl
set_events-append c (first ∷ list) param = ap (λ (es : List Event). Set c first ∷ es) (set_events-append c list param)

overridden : State → ℕ → Param → State
overridden s c param = record { parameters = with_param s.parameters c param; selection = s.selection; soft_failure = soft_after s.soft_failure param }

after-append : (s : State) (c : ℕ) (list : List Param) (param : Param) → after_override s c (list ++ param ∷ []) ≡ overridden (after_override s c list) c param
unfolding overridden
after-append s c [] param = refl
after-append s c (first ∷ list) param = after-append (record { parameters = with_param s.parameters c first; selection = s.selection; soft_failure = soft_after s.soft_failure first }) c list param

other_soft : (soft : Bool) (param : Param) → key_of param ≢ keys.Soft → soft_after soft param ≡ soft
other_soft soft (params.Soft value) other = absurd (other refl)
other_soft soft (params.Vendor id) other = refl
other_soft soft (params.Class id) other = refl
other_soft soft (params.Device id) other = refl
other_soft soft (params.Digest digest) other = refl
other_soft soft (params.Slot number) other = refl
other_soft soft (params.Strict value) other = refl
other_soft soft (params.Size size) other = refl
other_soft soft (params.Content bytes) other = refl
other_soft soft (params.Uri text) other = refl
other_soft soft (params.Source component) other = refl
other_soft soft (params.Args bytes) other = refl

pub overrides_step : OverridesStep
unfolding overridden
overrides_step s c list param =
    let is = after-append s c list param in
    record {
      told = set_events-append c list param;
      parameters = ap (λ (t : State). t.parameters) is;
      selection = ap (λ (t : State). t.selection) is;
      soft = λ value soft. ap (λ (t : State). t.soft_failure) is ∙ ap (soft_after (after_override s c list).soft_failure) soft;
      other = λ other. ap (λ (t : State). t.soft_failure) is ∙ other_soft (after_override s c list).soft_failure param other;
    }

pub overrides_nothing : OverridesNothing
overrides_nothing = record { told = λ c. refl; state = λ s c. refl }

-- ---- sequences

pub sequence_rules : SequenceRules
sequence_rules = record {
  none = λ ids count s es e. (λ run. run, λ is. is);
  step = λ place command rest ids count s es e. (
    λ run. of_then (Does command ids count place) (Runs rest ids count) s es e run,
    λ turns. to_then (Does command ids count place) (Runs rest ids count) s es e turns,
  );
}

-- ---- one selected component

-- once, and then nothing
pub once : (at : ℕ → Behaviour) (c : ℕ) (s : State) (es : List Event) (e : Ending) → at c s es e → Each at (c ∷ []) s es e
once at c s es (Done t) run = inr (t, es, [], sym (append-nil es), run, (refl, refl))
once at c s es (Condition place soft) run = inl (tt, run)
once at c s es (Directive place) run = inl (tt, run)

pub at_sole : (at : ℕ → Behaviour) (c : ℕ) (s : State) (es : List Event) (e : Ending) → s.selection ≡ c ∷ [] → at c s es e → EachSelected at s es e
at_sole at c s es e sole run = subst (λ (cs : List ℕ). Each at cs s es e) (sym sole) (once at c s es e run)

pub of_once : (at : ℕ → Behaviour) (c : ℕ) (s : State) (es : List Event) (e : Ending) → Each at (c ∷ []) s es e → at c s es e
of_once at c s es e run =
    elim run [
      | inl (failed, one) ↦ one
      | inr (middle, before, after, is, one, (none, done)) ↦
          let events : before ≡ es = sym (is ∙ ap (λ (more : List Event). before ++ more) none ∙ append-nil before) in
          subst (λ (end : Ending). at c s es end) (sym done) (subst (λ (l : List Event). at c s l (Done middle)) events one)
    ]

pub of_sole : (at : ℕ → Behaviour) (c : ℕ) (s : State) (es : List Event) (e : Ending) → s.selection ≡ c ∷ [] → EachSelected at s es e → at c s es e
of_sole at c s es e sole run = of_once at c s es e (subst (λ (cs : List ℕ). Each at cs s es e) sole run)

-- ---- run sequence

run_ends : (inner : Behaviour) (s : State) (c : ℕ) (es : List Event) (e end : Ending) → inner (entry_state s c false) es end → e ≡ after_run s end → RunEnds s (inner (within s c false)) es e
run_ends inner s c es e (Done t) one is = inl (t, one, is)
run_ends inner s c es e (Condition p true) one is = inr (inl (p, one, is))
run_ends inner s c es e (Condition p false) one is = inr (inr (inl (p, one, is)))
run_ends inner s c es e (Directive p) one is = inr (inr (inr (p, one, is)))

run_from : (inner : Behaviour) (s : State) (c : ℕ) (es : List Event) (e : Ending) → RunEnds s (inner (within s c false)) es e → RunsInner inner c s es e
run_from inner s c es e ends =
    elim ends [
      | inl (t, one, is) ↦ (Done t, one, is)
      | inr more ↦ elim more [
        | inl (p, one, is) ↦ (Condition p true, one, is)
        | inr failed ↦ elim failed [
          | inl (p, one, is) ↦ (Condition p false, one, is)
          | inr (p, one, is) ↦ (Directive p, one, is)
        ]
      ]
    ]

pub run_sequence_rules : RunSequenceRules
run_sequence_rules inner ids count place c s es e sole =
    let at = RunsInner (Runs inner ids count) in (
      λ run. let one : RunsInner (Runs inner ids count) c s es e = of_sole at c s es e sole run in run_ends (Runs inner ids count) s c es e one.0 one.1 one.2,
      λ ends. at_sole at c s es e sole (run_from (Runs inner ids count) s c es e ends),
    )

-- ---- try each

branch_stays : (inner : Behaviour) (others : Course) (s : State) (c : ℕ) (es : List Event) (e end : Ending) → inner (entry_state s c true) es end → (FailsSoftly end → ⊥) → e ≡ after_branch s end
    → BranchEnds s (inner (within s c true)) others es e
branch_stays inner others s c es e (Done t) one stays is = inl (t, one, is)
branch_stays inner others s c es e (Condition p true) one stays is = absurd (stays tt)
branch_stays inner others s c es e (Condition p false) one stays is = inr (inr (inl (p, one, is)))
branch_stays inner others s c es e (Directive p) one stays is = inr (inr (inr (p, one, is)))

branch_goes_on : (inner : Behaviour) (others : Course) (s : State) (c : ℕ) (es before after : List Event) (e end : Ending) → es ≡ before ++ after → inner (entry_state s c true) before end → FailsSoftly end → others after e
    → BranchEnds s (inner (within s c true)) others es e
branch_goes_on inner others s c es before after e (Done t) is one soft rest = absurd soft
branch_goes_on inner others s c es before after e (Condition p true) is one soft rest = inr (inl (p, before, after, is, one, rest))
branch_goes_on inner others s c es before after e (Condition p false) is one soft rest = absurd soft
branch_goes_on inner others s c es before after e (Directive p) is one soft rest = absurd soft

branch_from : (inner : Behaviour) (others : ℕ → Behaviour) (s : State) (c : ℕ) (es : List Event) (e : Ending) → BranchEnds s (inner (within s c true)) (others c s) es e → TriesBranch inner others c s es e
branch_from inner others s c es e ends =
    elim ends [
      | inl (t, one, is) ↦ inl (Done t, one, λ x. x, is)
      | inr more ↦ elim more [
        | inl (p, before, after, is, one, rest) ↦ inr (Condition p true, before, after, is, one, tt, rest)
        | inr failed ↦ elim failed [
          | inl (p, one, is) ↦ inl (Condition p false, one, λ x. x, is)
          | inr (p, one, is) ↦ inl (Directive p, one, λ x. x, is)
        ]
      ]
    ]

other_branches : (s : State) (inner others these : Course) → ((xs : List Event) (end : Ending) → others xs end → these xs end) → (es : List Event) (e : Ending) → BranchEnds s inner others es e → BranchEnds s inner these es e
other_branches s inner others these map es e ends =
    elim ends [
      | inl done ↦ inl done
      | inr more ↦ elim more [
        | inl (p, before, after, is, one, rest) ↦ inr (inl (p, before, after, is, one, map after e rest))
        | inr failed ↦ inr (inr failed)
      ]
    ]

pub branches_rules : BranchesRules
branches_rules inner rest ids count place c s es e sole =
    let at = Tries (BranchThen inner rest) ids count place in
    let others = Tries rest ids count place in
    let one_branch = Runs inner ids count (within s c true) in
    let all = Does (TryEach rest) ids count place s in
    let to_all = λ (xs : List Event) (end : Ending) (run : others c s xs end). at_sole others c s xs end sole run in
    let of_all = λ (xs : List Event) (end : Ending) (run : all xs end). of_sole others c s xs end sole run in (
      λ run. other_branches s one_branch (others c s) all to_all es e (elim (of_sole at c s es e sole run) [
        | inl (end, one, stays, is) ↦ branch_stays (Runs inner ids count) (others c s) s c es e end one stays is
        | inr (end, before, after, is, one, soft, more) ↦ branch_goes_on (Runs inner ids count) (others c s) s c es before after e end is one soft more
      ]),
      λ ends. at_sole at c s es e sole (branch_from (Runs inner ids count) others s c es e (other_branches s one_branch all (others c s) of_all es e ends)),
    )

pub last_branch_rules : LastBranchRules
last_branch_rules ids count place c s sole = record {
  null = λ rest es e. (
    λ run. of_sole (Tries (NullThen rest) ids count place) c s es e sole run,
    λ ends. at_sole (Tries (NullThen rest) ids count place) c s es e sole ends,
  );
  exhausted = λ es e. (
    λ run. of_sole (Tries NoBranches ids count place) c s es e sole run,
    λ ends. at_sole (Tries NoBranches ids count place) c s es e sole ends,
  );
}
