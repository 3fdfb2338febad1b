-- The rest of a procedure as a list of what is run in order.
use Rattle.std.specs.Prelude.{List, [], ◌∷◌, ◌++◌, Some, drop}
use Rattle.suit_commands.specs.Tree.{BranchesTree}
use Rattle.suit_commands.specs.View.{sequence_tree, branches_tree}
use Rattle.path_checker.specs.declared.judge_plan.wide_try.Tried.{Tried}
use Rattle.path_checker.specs.declared.judge_plan.rest.First.{First}
use Rattle.path_checker.specs.declared.judge_plan.rest.First.TheVariants as firsts
use Rattle.path_checker.specs.Rests.{Later, OfPart, OfSteps, OfTries, OfLeave}

abbrev pub tried_branches : Tried → BranchesTree
tried_branches tried = branches_tree (tried.before.now ++ Some tried.last.now ∷ [])

abbrev pub all_of : First → List Later
all_of firsts.End = []
all_of (firsts.Part steps behind) = OfPart (sequence_tree steps.now) ∷ behind.now
all_of (firsts.Steps steps behind) = OfSteps (sequence_tree steps.now) ∷ behind.now
all_of (firsts.Tries tried components from behind) =
    OfTries (tried_branches tried) tried.place (drop from components) ∷ behind.now
all_of (firsts.Leave selection soft_failure behind) = OfLeave selection soft_failure ∷ behind.now
