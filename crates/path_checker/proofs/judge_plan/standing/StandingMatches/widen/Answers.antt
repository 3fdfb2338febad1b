use Rattle.std.proofs.Common.{◌∙◌}
use Rattle.path_checker.proofs.judge_plan.standing.StandingMatches.widen.Goals as goal

pub loop-preserved : goal.loop-preserved
loop-preserved c component = c.in_ok-more.ensures component ∙ c.loop.invariant component
