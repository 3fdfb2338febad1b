-- Procedures as trees.
use Rattle.std.specs.Prelude.{Option, Some, None}
use Rattle.std.specs.Borrow.{Bor}
use Rattle.suit_commands.specs.Tree.{SequenceTree, NoSteps, PlanTree}
use Rattle.suit_commands.specs.declared.plan.Plan.{Plan}

-- an absent sequence counts as empty
abbrev pub lent_tree : Option (Bor SequenceTree) → SequenceTree
lent_tree None = NoSteps
lent_tree (Some s) = s.now

abbrev pub plan_tree : Plan → PlanTree
plan_tree plan =
    record {
      shared = lent_tree plan.shared;
      first = lent_tree plan.first;
      second = lent_tree plan.second;
      third = lent_tree plan.third;
      count = plan.count;
    }
