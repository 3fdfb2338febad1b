use Rattle.std.proofs.Common.{subst, ◌∙◌}
use Rattle.path_checker.specs.declared.judge_plan.facts.Knowledge.{Knowledge}
use Rattle.path_checker.specs.Knowing.{AllowsOne}
use Rattle.path_checker.proofs.Choices.{chosen_step}
use Rattle.path_checker.proofs.judge_plan.choice.chosen_identities.Goals as goal

pub loop-known-preserved : goal.loop-known-preserved
loop-known-preserved c = record {
  whole = c.loop-known.invariant.whole;
  chosen = chosen_step c.as_slice-known-items.result.now c.loop-known.known-index c.known-item.result c.loop-known.identities c.push.new.self c.chosen_one.result c.loop-known-test.true c.loop-known.invariant.chosen c.in_ok-push.ensures.ok (subst (λ (k : Knowledge). AllowsOne k c.chosen_one.result) (c.known.ensures ∙ c.known-item.is) c.chosen_one.ensures.allowed) c.chosen_one.ensures.bounds;
}
