use Rattle.std.proofs.Common.{◌≡◌, ◌++◌, drop}
use Rattle.path_model.specs.Directives.{set_events}
use Rattle.path_checker.proofs.judge_plan.sets.tell_sets.Given as goal

abbrev pub invariant-loop-param : goal.invariant-loop-param
invariant-loop-param l = record {
  whole : l.param-items ≡ l.list;
  rest : l.events ++ set_events l.component (drop l.param-index l.param-items) ≡ l.initial.events ++ set_events l.component l.list;
}
