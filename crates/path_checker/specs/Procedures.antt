-- Runs of whole procedures.
use Rattle.std.specs.Prelude.{◌⊎◌, ℕ, []}
use Rattle.suit_commands.specs.Tree.{SequenceTree, PlanTree}
use Rattle.path_model.specs.Behaviour.{Then}
use Rattle.path_model.specs.Path.{start_state, first_state}
use Rattle.path_model.specs.Runs.{Runs}
use Rattle.path_checker.specs.Exploring.{Course, Kept}
use Rattle.path_checker.specs.Invoking.{Invokes}
use Rattle.path_checker.specs.Knowing.{nothing_known}
use Rattle.path_checker.specs.Small.{IsSmallSequence}

-- a member or the shared sequence, run from the state in which it begins
abbrev pub FromStart : SequenceTree → ℕ → Course
FromStart sequence count identities state = Runs sequence identities count (start_state state)

-- the state in which a procedure begins: nothing is known of the identities, and nothing has happened
abbrev pub first_kept : ℕ → Kept
first_kept count = record { facts = nothing_known count; events = []; state = first_state }

-- the sequences of the procedure select only components below 8
pub record ArePlan (plan : PlanTree) : Type 0 where
  pub shared : IsSmallSequence plan.count plan.shared
  pub first : IsSmallSequence plan.count plan.first
  pub second : IsSmallSequence plan.count plan.second
  pub third : IsSmallSequence plan.count plan.third

-- ---- the rest of the procedure, from the shared sequence before its second or third member

abbrev pub FromThird : PlanTree → Course
FromThird plan identities =
    Then (FromStart plan.shared plan.count identities) (FromStart plan.third plan.count identities)

abbrev pub FromSecond : PlanTree → Course
FromSecond plan identities =
    Then (FromStart plan.shared plan.count identities)
    (Then (FromStart plan.second plan.count identities) (FromThird plan identities))

-- ---- whether that rest holds an invoke

abbrev pub ThirdInvokes : PlanTree → Type 0
ThirdInvokes plan = Invokes plan.shared ⊎ Invokes plan.third

abbrev pub SecondInvokes : PlanTree → Type 0
SecondInvokes plan = Invokes plan.second ⊎ ThirdInvokes plan

abbrev pub FirstInvokes : PlanTree → Type 0
FirstInvokes plan = Invokes plan.first ⊎ SecondInvokes plan
