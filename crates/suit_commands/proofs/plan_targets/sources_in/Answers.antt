use Rattle.suit_commands.specs.Plans.{plan_tree}
use Rattle.suit_commands.specs.Targets.{Sources}
use Rattle.suit_commands.proofs.TargetLaws.{some_bits}
use Rattle.suit_commands.proofs.plan_targets.sources_in.Goals as goal

pub returns : goal.returns
returns c =
    some_bits (plan_tree c.args.plan.now) (λ s component. Sources s component) c.lent_sources-shared.result c.lent_sources-first.result c.lent_sources-second.result c.lent_sources-third.result
    c.lent_sources-shared.ensures c.lent_sources-first.ensures c.lent_sources-second.ensures c.lent_sources-third.ensures
