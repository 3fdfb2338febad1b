use Rattle.nor_flash.specs.declared.phase.Phase.TheVariants as phases
use Rattle.nor_flash.specs.NorDisks.{blocks_of}
use Rattle.nor_flash.proofs.Calm.{IsCalm, IsSized, calm_by, calm_fits, sized_by}
use Rattle.nor_flash.proofs.Fronts.{cleared_sees}
use Rattle.nor_flash.proofs.Steadiness.{then_turned}
use Rattle.nor_flash.proofs.settling.clear.Goals as goal

pub returns-in-Failed-clause-steady : goal.returns-in-Failed-clause-steady
returns-in-Failed-clause-steady g c t = c.clear_names.ensures.steady t c.args.phase.now (c.requires.clears t)

pub returns-in-Done-clause-steady : goal.returns-in-Done-clause-steady
returns-in-Done-clause-steady g c t =
    let sized : IsSized (g.N.Nor.extent c.args.nor.now) = sized_by (g.N.Nor.extent c.args.nor.now) c.count-image.result c.count-image.ensures.count c.count-image.ensures.few c.count-image.ensures.all in
    let calm : IsCalm (g.N.Nor.extent c.args.nor.now) (g.N.Nor.flash c.clear_names.new.nor) = calm_by c.clear_names.ensures.size (g.met.N.Nor.obeys c.clear_names.new.nor t) (g.met.N.Nor.rests c.clear_names.new.nor t) (g.met.N.Nor.cells c.clear_names.new.nor t) in
    then_turned phases.Settled calm (c.clear_names.ensures.steady t c.args.phase.now (c.requires.clears t))
    (cleared_sees (blocks_of (g.N.Nor.extent c.args.nor.now)) sized.few (g.N.Nor.flash c.clear_names.new.nor).reads (calm_fits sized calm) (c.in-Done.ensures.erased t) c.args.phase.now c.requires.phase)
