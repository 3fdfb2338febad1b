use Rattle.path_checker.proofs.Merging.{same_state}
use Rattle.path_checker.proofs.judge_plan.merged.merged_states.Goals as goal

pub merged-requires : goal.merged-requires
merged-requires c = same_state
