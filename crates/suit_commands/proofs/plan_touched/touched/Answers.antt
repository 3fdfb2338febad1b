use Rattle.std.proofs.Common.{[], ◌∷◌}
use Rattle.suit_commands.specs.Plans.{plan_tree}
use Rattle.suit_commands.specs.Targets.{InSome, Sources}
use Rattle.suit_commands.specs.Touches.{Touches}
use Rattle.suit_commands.proofs.TargetLaws.{or_two}
use Rattle.suit_commands.proofs.plan_touched.touched.Goals as goal

pub returns : goal.returns
returns c =
    let plan = plan_tree c.args.plan.now in
    λ component. or_two c.selected_in.result c.sources_in.result component {A = InSome plan (λ s. Touches s plan.count (0 ∷ []) component)} {B = InSome plan (λ s. Sources s component)} (c.selected_in.ensures component) (c.sources_in.ensures component)
