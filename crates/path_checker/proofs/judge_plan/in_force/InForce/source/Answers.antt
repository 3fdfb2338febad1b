use Rattle.std.proofs.Common.{sym, ap, ◌∙◌}
use Rattle.suit_params.specs.declared.param.ParamKey.TheVariants.{Source}
use Rattle.suit_params.specs.InForce.{in_force}
use Rattle.path_checker.proofs.judge_plan.in_force.InForce.source.Goals as goal

pub source_of-requires : goal.source_of-requires
source_of-requires c = c.self.invariant.keyed.keyed c.args.component Source c.in-Some.param.now c.requires.room (ap (λ ps. in_force ps c.args.component Source) c.self.view_is ∙ sym c.in-Some.ensures)
