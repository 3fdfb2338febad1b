use Rattle.suit_commands.specs.Plans.{plan_tree}
use Rattle.suit_commands.proofs.TargetLaws.{with_sources}
use Rattle.suit_commands.proofs.plan_targets.targets.Goals as goal

pub returns-then-swaps_in : goal.returns-then-swaps_in
returns-then-swaps_in c = with_sources (plan_tree c.args.plan.now) c.written_by-written.result c.sources_in.result c.written_by-written.ensures (c.swaps_in.ensures.0 c.if-swaps_in.true) c.sources_in.ensures
