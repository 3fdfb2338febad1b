use Rattle.std.proofs.Common.{length}
use Rattle.path_checker.proofs.judge_plan.outermost.+chain.Given as goal

abbrev pub decreases-chain : goal.decreases-chain
decreases-chain l = length l.parts.now
