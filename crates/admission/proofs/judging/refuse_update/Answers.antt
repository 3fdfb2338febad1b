use Rattle.std.proofs.Common.{arith, refl}
use Rattle.suit_commands.specs.Numbers.{width_number}
use Rattle.suit_commands.specs.Plans.{plan_tree}
use Rattle.path_checker.specs.PlanVerdicts.{widest}
use Rattle.admission.proofs.Refusing.{above_limit, within_limit}
use Rattle.admission.proofs.judging.refuse_update.Goals as goal

pub returns-then-width-gt-WIDEST : goal.returns-then-width-gt-WIDEST
returns-then-width-gt-WIDEST c update narrow bad = (
  narrow,
  record {
    wide = above_limit c.width-width.result (width_number (plan_tree c.args.invocation.now)) widest widest c.width-width.ensures refl c.if-width-gt-WIDEST.true;
    width_is = c.width-width.ensures;
  },
)

pub returns-else-width-gt-WIDEST : goal.returns-else-width-gt-WIDEST
returns-else-width-gt-WIDEST c update narrow bad = (
  record {
    update_narrow = narrow;
    invocation_narrow = within_limit c.width-width.result (width_number (plan_tree c.args.invocation.now)) widest widest c.width-width.ensures refl (omega arith) (omega (arith, c.if-width-gt-WIDEST.false));
  },
  bad,
)
