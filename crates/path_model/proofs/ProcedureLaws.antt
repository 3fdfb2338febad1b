-- The laws of procedures.
use Rattle.std.proofs.Common.{ℕ, List, [], ◌∷◌, ◌++◌}
use Rattle.std.specs.Prelude.{◌↔◌}
use Rattle.path_model.specs.declared.identity.Identity.{Identity}
use Rattle.path_model.specs.declared.event.Event.{Event}
use Rattle.suit_commands.specs.Tree.{SequenceTree, PlanTree}
use Rattle.path_model.specs.Behaviour.{State, Ending, Behaviour, Then, Each}
use Rattle.path_model.specs.Path.{Starts, RunsPlan, first_state}
use Rattle.path_model.specs.ProcedureLaws.{sequences_of, AllInTurn, PlanRuns, PathRules}
use Rattle.path_model.proofs.Turns.{of_then, to_then, turn_map}
use Rattle.path_model.proofs.RunLaws.{once, of_once}
use Rattle.path_model.proofs.ParameterLaws.{starts_empty}

Same : Behaviour → Behaviour → Type 0
Same one other = (s : State) (es : List Event) (e : Ending) → one s es e ↔ other s es e

module _ (plan : PlanTree) (ids : List Identity) where
  All : List SequenceTree → Behaviour
  All sequences = AllInTurn sequences ids plan.count

  before_all : (sequence : SequenceTree) (rest : List SequenceTree) (second : Behaviour) → Same second (All rest) → Same (Then (Starts sequence plan ids) second) (All (sequence ∷ rest))
  unfolding Same All
  before_all sequence rest second same s es e = (
    λ run. turn_map (Starts sequence plan ids s) second (All rest) (λ m a f others. (same m a f).0 others) es e (of_then (Starts sequence plan ids) second s es e run),
    λ turns. to_then (Starts sequence plan ids) second s es e (turn_map (Starts sequence plan ids s) (All rest) second (λ m a f others. (same m a f).1 others) es e turns),
  )

  last_of_all : (sequence : SequenceTree) → Same (Starts sequence plan ids) (All (sequence ∷ []))
  unfolding Same All
  last_of_all sequence s es e =
      let at : ℕ → Behaviour = λ c. Starts sequence plan ids in (
        λ run. of_then (at 0) (Each at []) s es e (once at 0 s es e run),
        λ turns. of_once at 0 s es e (to_then (at 0) (Each at []) s es e turns),
      )

  all_six : Same (RunsPlan plan ids) (All (sequences_of plan))
  all_six =
      let last = last_of_all plan.third in
      let fifth = before_all plan.shared (plan.third ∷ []) (Starts plan.third plan ids) last in
      let rest2 : Behaviour = Then (Starts plan.shared plan ids) (Starts plan.third plan ids) in
      let fourth = before_all plan.second (plan.shared ∷ plan.third ∷ []) rest2 fifth in
      let rest3 : Behaviour = Then (Starts plan.second plan ids) rest2 in
      let third = before_all plan.shared (plan.second ∷ plan.shared ∷ plan.third ∷ []) rest3 fourth in
      let rest4 : Behaviour = Then (Starts plan.shared plan ids) rest3 in
      let second = before_all plan.first (plan.shared ∷ plan.second ∷ plan.shared ∷ plan.third ∷ []) rest4 third in
      let rest5 : Behaviour = Then (Starts plan.first plan ids) rest4 in
      before_all plan.shared (plan.first ∷ plan.shared ∷ plan.second ∷ plan.shared ∷ plan.third ∷ []) rest5 second

pub plan_runs : PlanRuns
unfolding Same All
plan_runs plan ids s es e = all_six plan ids s es e

pub path_rules : PathRules
path_rules = record {
  nothing = starts_empty;
  begins = λ plan ids es. (
    λ path. record { rest = path.rest; ending = path.ending; run = (plan_runs plan ids first_state (es ++ path.rest) path.ending).0 path.run },
    λ begins. record { rest = begins.rest; ending = begins.ending; run = (plan_runs plan ids first_state (es ++ begins.rest) begins.ending).1 begins.run },
  );
}
