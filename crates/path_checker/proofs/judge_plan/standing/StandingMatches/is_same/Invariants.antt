use Rattle.std.proofs.Common.{◌-◌, ◌<◌, ℕ, length}
use Rattle.std.specs.Prelude.{◌↔◌, slice_get}
use Rattle.path_checker.specs.Exploring.{In}
use Rattle.path_checker.specs.Matches.{Match, matches_from}
use Rattle.path_checker.proofs.judge_plan.standing.StandingMatches.is_same.Given as goal

abbrev pub invariant-loop-index : goal.invariant-loop-index
invariant-loop-index l = (component : ℕ) → component < l.index → (any : Match) → In any (matches_from (slice_get l.mine component)) ↔ In any (matches_from (slice_get l.others component))

abbrev pub decreases-loop-index : goal.decreases-loop-index
decreases-loop-index l = length l.mine - l.index
