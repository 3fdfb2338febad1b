use Rattle.std.proofs.Common.{Option, subst}
use Rattle.std.specs.Option.{option_copied}
use Rattle.suit_params.specs.declared.param.Param.{Param}
use Rattle.suit_params.specs.declared.param.ParamKey.TheVariants.{Size}
use Rattle.suit_params.specs.InForce.{in_force, number_of, digest_of}
use Rattle.path_checker.specs.Matches.{IsStated}
use Rattle.path_checker.proofs.judge_plan.in_force.InForce.stated.Goals as goal

pub returns : goal.returns
returns c =
    subst (λ (o : Option Param). IsStated (digest_of o) (number_of (in_force c.args.self.now c.args.component Size)) c.by.result) c.get-digest.ensures
    (subst (λ (o : Option Param). IsStated (digest_of (option_copied c.get-digest.result)) (number_of o) c.by.result) c.get-size.ensures c.by.ensures)
