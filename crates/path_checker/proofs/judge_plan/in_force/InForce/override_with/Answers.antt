use Rattle.path_checker.proofs.RowLaws.{row_keyed_or_left, row_exact_ok}
use Rattle.path_checker.proofs.judge_plan.in_force.InForce.override_with.Goals as goal

pub invariant_of-self : goal.invariant_of-self
invariant_of-self c = row_keyed_or_left c.overriding_laws.ensures.whole _ _ c.args.component c.args.list.now c.override_shared.result c.self.invariant c.requires.room c.override_shared.ensures.exact c.override_shared.ensures.err

pub returns : goal.returns
returns c = row_exact_ok _ _ c.args.self.now c.args.component c.args.list.now c.override_shared.result c.self.invariant c.requires.room c.self.view_is c.override_shared.ensures.exact
