use Rattle.std.proofs.Common.{arith}
use Rattle.path_checker.proofs.Choices.{all_bytes}
use Rattle.path_checker.proofs.judge_plan.choice.identifier_bounds.Goals as goal

pub returns : goal.returns
returns c = (c.requires, all_bytes c.args.id.now (λ i. omega (arith, c.type_inv.id i)))
