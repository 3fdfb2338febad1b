use Rattle.std.proofs.Common.{◌≡◌, drop}
use Rattle.path_checker.specs.Small.{AreSmall}
use Rattle.path_checker.specs.Steps.{overridden_at}
use Rattle.path_checker.proofs.judge_plan.directives.override_all.Given as goal

abbrev pub invariant-loop-component : goal.invariant-loop-component
invariant-loop-component l = record {
  small : AreSmall (drop l.component-index l.components);
  params : overridden_at l.params (drop l.component-index l.components) l.list ≡ overridden_at l.initial.params l.components l.list;
}
