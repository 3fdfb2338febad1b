use Rattle.std.proofs.Common.{rules}
use Rattle.path_checker.proofs.judge_plan.standing.is_same_held.Goals as goal

pub returns-then-is_within : goal.returns-then-is_within
returns-then-is_within c t any = (c.if-is_within.ensures (search rules) any, c.is_within-then-is_within.ensures t any)
