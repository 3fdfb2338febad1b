use Rattle.std.proofs.Common.{[], ◌∷◌, subst, sym}
use Rattle.suit_params.specs.InForce.{Parameters, IsOverridden}
use Rattle.suit_params.specs.ParamSlices.{param_of}
use Rattle.suit_params.proofs.Overriding.{is_overridden}
use Rattle.suit_cursor.proofs.slice_params.SliceParams.set.Goals as goal

pub returns-clause-alone : goal.returns-clause-alone
returns-clause-alone c =
    subst (λ (after : Parameters). IsOverridden c.args.self.now after c.args.component (param_of c.args.param ∷ [])) (sym c.put.ensures)
    (is_overridden c.args.self.now c.args.component (param_of c.args.param ∷ []) c.whole.ensures c.requires)
