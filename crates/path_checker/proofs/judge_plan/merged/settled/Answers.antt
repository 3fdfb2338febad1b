use Rattle.path_checker.proofs.Merging.{same_stop}
use Rattle.path_checker.proofs.judge_plan.merged.settled.Goals as goal

pub merged-requires : goal.merged-requires
merged-requires c = same_stop
