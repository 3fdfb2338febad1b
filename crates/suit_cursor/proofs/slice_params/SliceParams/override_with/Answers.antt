use Rattle.std.proofs.Common.{subst, sym}
use Rattle.suit_params.specs.InForce.{Parameters, IsOverridden}
use Rattle.suit_params.proofs.Overriding.{is_overridden}
use Rattle.suit_cursor.proofs.slice_params.SliceParams.override_with.Goals as goal

pub returns-clause-last : goal.returns-clause-last
returns-clause-last c =
    subst (λ (after : Parameters). IsOverridden c.args.self.now after c.args.component c.args.list) (sym c.put_each.ensures.exact)
    (is_overridden c.args.self.now c.args.component c.args.list c.whole.ensures c.requires)
