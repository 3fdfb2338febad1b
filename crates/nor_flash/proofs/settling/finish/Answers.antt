use Rattle.std.proofs.Common.{inr, ◌+◌, IsTrue, refl, ◌∙◌}
use Rattle.nor_flash.specs.declared.phase.Phase.TheVariants as phases
use Rattle.nor_flash.specs.NorDisks.{IsQuiet, IsSteady, blocks_of}
use Rattle.nor_flash.proofs.Calm.{IsCalm, IsSized, calm_by, calm_fits, sized_by}
use Rattle.nor_flash.proofs.Quiet.{finished_quiet}
use Rattle.nor_flash.proofs.Steadiness.{steady_then, then_turned}
use Rattle.nor_flash.proofs.settling.finish.Given as given
use Rattle.nor_flash.proofs.settling.finish.Goals as goal
use Rattle.nor_flash.proofs.settling.finish.Goals.{After-erase_names}

-- the block is rewritten, and the names are erased
module _ (g : given.Over) (c : After-erase_names g) (t : IsTrue g.N.Nor.told) where
  rewritten : IsSteady (blocks_of (g.N.Nor.extent c.args.nor.now)) (phases.Rewriting c.args.block) (g.N.Nor.flash c.args.nor.now) phases.Unsettled (g.N.Nor.flash c.erase_names.new.nor)
  rewritten =
      let sized : IsSized (g.N.Nor.extent c.args.nor.now) = sized_by (g.N.Nor.extent c.args.nor.now) c.count-image.result c.count-image.ensures.count c.count-image.ensures.few c.count-image.ensures.all in
      let calm : IsCalm (g.N.Nor.extent c.args.nor.now) (g.N.Nor.flash c.rewrite.new.nor) = calm_by c.rewrite.ensures.size (g.met.N.Nor.obeys c.rewrite.new.nor t) (g.met.N.Nor.rests c.rewrite.new.nor t) (g.met.N.Nor.cells c.rewrite.new.nor t) in
      let quiet : IsQuiet (blocks_of (g.N.Nor.extent c.args.nor.now)) phases.Unsettled (g.N.Nor.flash c.rewrite.new.nor).reads (blocks_of (g.N.Nor.extent c.args.nor.now) + 1) =
      finished_quiet (blocks_of (g.N.Nor.extent c.args.nor.now)) sized.few (g.N.Nor.flash c.rewrite.new.nor).reads (calm_fits sized calm) phases.Unsettled c.args.block refl (c.rewrite.ensures.named t (c.requires.named t)) (c.in-Done.ensures.copied t) in
      steady_then calm (then_turned phases.Unsettled calm (c.rewrite.ensures.steady t (c.requires.named t)) refl)
      ((rw c.rewrite.ensures.size at (c.erase_names.ensures.steady t phases.Unsettled (inr refl))) quiet)

pub returns-in-Failed-erase_names-clause-steady : goal.returns-in-Failed-erase_names-clause-steady
returns-in-Failed-erase_names-clause-steady g c t = rewritten g (goal.at.returns-in-Failed-erase_names-clause-steady g c).After-erase_names t

pub returns-clause-steady : goal.returns-clause-steady
returns-clause-steady g c t =
    let calm : IsCalm (g.N.Nor.extent c.args.nor.now) (g.N.Nor.flash c.erase_names.new.nor) = calm_by (c.erase_names.ensures.size ∙ c.rewrite.ensures.size) (g.met.N.Nor.obeys c.erase_names.new.nor t) (g.met.N.Nor.rests c.erase_names.new.nor t) (g.met.N.Nor.cells c.erase_names.new.nor t) in
    then_turned phases.Settled calm (rewritten g (goal.at.returns-clause-steady g c).After-erase_names t) refl
