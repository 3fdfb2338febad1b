use Rattle.std.proofs.Common.{List, [], ◌∷◌, ◌++◌, Some, drop}
use Rattle.suit_commands.specs.View.{branches_tree}
use Rattle.path_checker.specs.Inner.{AllAt}
use Rattle.path_checker.specs.RestViews.{tried_branches}
use Rattle.path_checker.specs.Rests.{Later, RunsRest, TriesAt}
use Rattle.path_checker.specs.Small.{AreSmallBranches}
use Rattle.path_checker.specs.Steps.{TriesIn}
use Rattle.path_checker.proofs.Besides.{GoesBoth}
use Rattle.path_checker.proofs.judge_plan.outermost.tried_before.Given as goal

-- the branches that are left
abbrev pub invariant-loop-branch : goal.invariant-loop-branch
invariant-loop-branch l = record {
  small : AreSmallBranches l.count (branches_tree (drop l.branch-index l.tried.before.now ++ Some l.tried.last.now ∷ []));
  at : AllAt l.outer l.now.items;
  both : (behind : List Later) → GoesBoth (TriesAt (tried_branches l.tried) l.tried.place l.component behind l.count) (l.fn.k ∷ []) (TriesIn (branches_tree (drop l.branch-index l.tried.before.now ++ Some l.tried.last.now ∷ [])) l.count l.tried.place l.component) (RunsRest behind l.count) l.now.items l.done.items;
}
