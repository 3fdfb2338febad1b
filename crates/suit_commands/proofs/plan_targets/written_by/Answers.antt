use Rattle.std.proofs.Common.{[], ◌∷◌}
use Rattle.suit_commands.specs.Plans.{plan_tree}
use Rattle.suit_commands.specs.Targets.{Writes}
use Rattle.suit_commands.proofs.TargetLaws.{some_bits}
use Rattle.suit_commands.proofs.plan_targets.written_by.Goals as goal

pub returns : goal.returns
returns c =
    some_bits (plan_tree c.args.plan.now) (λ s component. Writes s c.args.plan.now.count (0 ∷ []) component) c.lent_written-shared.result c.lent_written-first.result c.lent_written-second.result c.lent_written-third.result
    c.lent_written-shared.ensures c.lent_written-first.ensures c.lent_written-second.ensures c.lent_written-third.ensures
