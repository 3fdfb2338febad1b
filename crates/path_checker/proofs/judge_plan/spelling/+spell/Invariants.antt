use Rattle.std.proofs.Common.{length}
use Rattle.path_checker.proofs.judge_plan.spelling.+spell.Given as goal

abbrev pub decreases-spell : goal.decreases-spell
decreases-spell l = length l.parts.now
