-- The rest after the next thing to run is shorter than the whole rest.
use Rattle.std.specs.Prelude.{◌≤◌, max, length}
use Rattle.std.proofs.Common.{arith}
use Rattle.path_checker.specs.declared.judge_plan.rest.First.{First}
use Rattle.path_checker.specs.declared.judge_plan.rest.First.TheVariants as firsts
use Rattle.path_checker.specs.declared.judge_plan.rest.Rest.TheDeep.{deep-First}
use Rattle.path_checker.specs.RestViews.{all_of}

pub rest_falls : (first : First) → max (deep-First first) 0 ≤ length (all_of first)
rest_falls firsts.End = omega arith
rest_falls (firsts.Part steps behind) = omega arith
rest_falls (firsts.Steps steps behind) = omega arith
rest_falls (firsts.Tries tried components from behind) = omega arith
rest_falls (firsts.Leave selection soft_failure behind) = omega arith
