use Rattle.std.proofs.Common.{IsTrue, refl}
use Rattle.nor_flash.specs.declared.phase.Phase.TheVariants as phases
use Rattle.nor_flash.specs.NorDisks.{IsSteady, blocks_of}
use Rattle.nor_flash.proofs.Calm.{IsCalm, calm_by}
use Rattle.nor_flash.proofs.Steadiness.{read_step, steady_then, then_turned}
use Rattle.nor_flash.proofs.settling.settle_unknown.Given as given
use Rattle.nor_flash.proofs.settling.settle_unknown.Goals as goal
use Rattle.nor_flash.proofs.settling.settle_unknown.Goals.{After-named_block}

-- the names are read
module _ (g : given.Over) (c : After-named_block g) (t : IsTrue g.N.Nor.told) where
  calm : IsCalm (g.N.Nor.extent c.args.nor.now) (g.N.Nor.flash c.named_block.new.nor)
  calm = calm_by c.named_block.ensures.size (g.met.N.Nor.obeys c.named_block.new.nor t) (g.met.N.Nor.rests c.named_block.new.nor t) (g.met.N.Nor.cells c.named_block.new.nor t)

  was_read : IsSteady (blocks_of (g.N.Nor.extent c.args.nor.now)) phases.Unsettled (g.N.Nor.flash c.args.nor.now) phases.Unsettled (g.N.Nor.flash c.named_block.new.nor)
  was_read = read_step (blocks_of (g.N.Nor.extent c.args.nor.now)) phases.Unsettled (c.named_block.ensures.same t) (c.named_block.ensures.grows t)

pub returns-in-Some-None-clause-steady : goal.returns-in-Some-None-clause-steady
returns-in-Some-None-clause-steady g c t =
    let at = (goal.at.returns-in-Some-None-clause-steady g c).After-named_block in
    steady_then (calm g at t) (was_read g at t) (rw (c.named_block.ensures.size, c.requires) at (c.clear.ensures.steady t))

pub returns-in-Some-Some-clause-steady : goal.returns-in-Some-Some-clause-steady
returns-in-Some-Some-clause-steady g c t =
    let at = (goal.at.returns-in-Some-Some-clause-steady g c).After-named_block in
    steady_then (calm g at t) (then_turned (phases.Rewriting c.in-Some-Some.block) (calm g at t) (was_read g at t) refl) (rw c.named_block.ensures.size at (c.finish.ensures.steady t))
