use Rattle.std.proofs.Common.{[], ◌∷◌}
use Rattle.suit_commands.specs.Plans.{plan_tree}
use Rattle.suit_commands.specs.Touches.{Touches}
use Rattle.suit_commands.proofs.TargetLaws.{some_bits}
use Rattle.suit_commands.proofs.plan_touched.selected_in.Goals as goal

pub returns : goal.returns
returns c =
    some_bits (plan_tree c.args.plan.now) (λ s component. Touches s c.args.plan.now.count (0 ∷ []) component) c.lent_touched-shared.result c.lent_touched-first.result c.lent_touched-second.result c.lent_touched-third.result
    c.lent_touched-shared.ensures c.lent_touched-first.ensures c.lent_touched-second.ensures c.lent_touched-third.ensures
