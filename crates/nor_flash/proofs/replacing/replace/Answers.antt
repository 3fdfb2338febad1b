use Rattle.std.proofs.Common.{◌≡◌, ◌*◌, IsTrue, refl, sym, ◌∙◌}
use Rattle.suit_edge.specs.EdgeLaws.{always}
use Rattle.suit_edge.specs.Ranges.{written}
use Rattle.nor_flash.specs.declared.phase.Phase.TheVariants as phases
use Rattle.nor_flash.specs.Blocks.{front, plain, with_block}
use Rattle.nor_flash.specs.NorDisks.{IsSteady, blocks_of, nor_flash, seen}
use Rattle.nor_flash.proofs.Calm.{IsCalm, IsSized, calm_by, calm_fits, sized_by}
use Rattle.nor_flash.proofs.Fronts.{settled_front}
use Rattle.nor_flash.proofs.Replacement.{replaced_then, same_replaced, stored_shows, then_replaced}
use Rattle.nor_flash.proofs.Steadiness.{phase_step, steady_then}
use Rattle.nor_flash.proofs.replacing.replace.Given as given
use Rattle.nor_flash.proofs.replacing.replace.Goals as goal
use Rattle.nor_flash.proofs.replacing.replace.Goals.{After-store_image, After-prepare, After-finish}

module _ (g : given.Over) (c : After-store_image g) (t : IsTrue g.N.Nor.told) where
  calm_a : IsCalm (g.N.Nor.extent c.args.nor.now) (g.N.Nor.flash c.args.nor.now)
  calm_a = calm_by refl (g.met.N.Nor.obeys c.args.nor.now t) (g.met.N.Nor.rests c.args.nor.now t) (g.met.N.Nor.cells c.args.nor.now t)

  fronts : front (blocks_of (g.N.Nor.extent c.args.nor.now)) (g.N.Nor.flash c.args.nor.now).reads ≡ plain (blocks_of (g.N.Nor.extent c.args.nor.now)) (g.N.Nor.flash c.args.nor.now).reads
  fronts =
      let sized : IsSized (g.N.Nor.extent c.args.nor.now) = sized_by (g.N.Nor.extent c.args.nor.now) c.count-image.result c.count-image.ensures.count c.count-image.ensures.few c.count-image.ensures.all in
      sym (settled_front (blocks_of (g.N.Nor.extent c.args.nor.now)) sized.few (g.N.Nor.flash c.args.nor.now).reads (calm_fits sized calm_a) (c.requires.erased t))

  stored : IsSteady (blocks_of (g.N.Nor.extent c.args.nor.now)) phases.Settled (g.N.Nor.flash c.args.nor.now) phases.GivenUp (g.N.Nor.flash c.store_image.new.nor)
  stored = steady_then calm_a (phase_step (blocks_of (g.N.Nor.extent c.args.nor.now)) phases.Settled phases.GivenUp (g.N.Nor.flash c.args.nor.now) fronts) (c.store_image.ensures.steady t)

module _ (g : given.Over) (c : After-prepare g) (t : IsTrue g.N.Nor.told) (stored : IsSteady (blocks_of (g.N.Nor.extent c.args.nor.now)) phases.Settled (g.N.Nor.flash c.args.nor.now) phases.GivenUp (g.N.Nor.flash c.store_image.new.nor)) where
  prepared : IsSteady (blocks_of (g.N.Nor.extent c.args.nor.now)) phases.Settled (g.N.Nor.flash c.args.nor.now) phases.GivenUp (g.N.Nor.flash c.prepare.new.nor)
  prepared =
      let calm_b : IsCalm (g.N.Nor.extent c.args.nor.now) (g.N.Nor.flash c.store_image.new.nor) = calm_by c.store_image.ensures.size (g.met.N.Nor.obeys c.store_image.new.nor t) (g.met.N.Nor.rests c.store_image.new.nor t) (g.met.N.Nor.cells c.store_image.new.nor t) in
      steady_then calm_b stored (rw c.store_image.ensures.size at (c.prepare.ensures.steady t))

  -- once the block is named, the disk has the new bytes
  shows : front (blocks_of (g.N.Nor.extent c.args.nor.now)) (g.N.Nor.flash c.args.nor.now).reads ≡ plain (blocks_of (g.N.Nor.extent c.args.nor.now)) (g.N.Nor.flash c.args.nor.now).reads → with_block (blocks_of (g.N.Nor.extent c.args.nor.now)) c.args.block (g.N.Nor.flash c.prepare.new.nor).reads ≡ written (plain (blocks_of (g.N.Nor.extent c.args.nor.now)) (g.N.Nor.flash c.args.nor.now).reads) (4096 * c.args.block) c.args.bytes.now
  shows fronts =
      (rw c.store_image.ensures.size at (c.prepare.ensures.shown t))
      ∙ stored_shows (blocks_of (g.N.Nor.extent c.args.nor.now)) c.args.block (g.N.Nor.flash c.store_image.new.nor).reads (plain (blocks_of (g.N.Nor.extent c.args.nor.now)) (g.N.Nor.flash c.args.nor.now).reads) c.args.bytes.now (c.store_image.ensures.front t ∙ fronts) (c.in-Done.ensures.stored t)

module _ (g : given.Over) (c : After-finish g) (t : IsTrue g.N.Nor.told) where
  calm_e : IsCalm (g.N.Nor.extent c.args.nor.now) (g.N.Nor.flash c.commit.new.nor)
  calm_e = calm_by (c.commit.ensures.size ∙ c.prepare.ensures.size ∙ c.store_image.ensures.size) (g.met.N.Nor.obeys c.commit.new.nor t) (g.met.N.Nor.rests c.commit.new.nor t) (g.met.N.Nor.cells c.commit.new.nor t)

  finished : IsSteady (blocks_of (g.N.Nor.extent c.args.nor.now)) (phases.Rewriting c.args.block) (g.N.Nor.flash c.commit.new.nor) c.finish.new.phase (g.N.Nor.flash c.finish.new.nor)
  finished = rw (c.commit.ensures.size ∙ c.prepare.ensures.size ∙ c.store_image.ensures.size) at (c.finish.ensures.steady t)

pub returns-in-Failed-clause-replaced : goal.returns-in-Failed-clause-replaced
returns-in-Failed-clause-replaced g c t =
    let at = (goal.at.returns-in-Failed-clause-replaced g c).After-store_image in
    same_replaced (calm_a g at t) (stored g at t) _

pub returns-in-Failed-prepare-clause-replaced : goal.returns-in-Failed-prepare-clause-replaced
returns-in-Failed-prepare-clause-replaced g c t =
    let at = goal.at.returns-in-Failed-prepare-clause-replaced g c in
    let steady = prepared g at.After-prepare t (stored g at.After-store_image t) in
    same_replaced (calm_a g at.After-store_image t) steady _

pub returns-in-Failed-commit-clause-replaced : goal.returns-in-Failed-commit-clause-replaced
returns-in-Failed-commit-clause-replaced g c t =
    let at = goal.at.returns-in-Failed-commit-clause-replaced g c in
    let steady = prepared g at.After-prepare t (stored g at.After-store_image t) in
    let is = shows g at.After-prepare t (stored g at.After-store_image t) (fronts g at.After-store_image t) in
    then_replaced (calm_a g at.After-store_image t) steady _ phases.GivenUp (g.N.Nor.flash c.commit.new.nor)
    (rw (c.prepare.ensures.size ∙ c.store_image.ensures.size, is) at (c.commit.ensures.not_committed t))

pub returns-clause-replaced : goal.returns-clause-replaced
returns-clause-replaced g c t =
    let at = goal.at.returns-clause-replaced g c in
    let steady = prepared g at.After-prepare t (stored g at.After-store_image t) in
    let is = shows g at.After-prepare t (stored g at.After-store_image t) (fronts g at.After-store_image t) in
    let put = then_replaced (calm_a g at.After-store_image t) steady _ (phases.Rewriting c.args.block) (g.N.Nor.flash c.commit.new.nor) (rw (c.prepare.ensures.size ∙ c.store_image.ensures.size, is) at (c.commit.ensures.committed t)) in
    replaced_then (nor_flash (blocks_of (g.N.Nor.extent c.args.nor.now)) phases.Settled (g.N.Nor.flash c.args.nor.now)) (calm_e g at.After-finish t) put (finished g at.After-finish t)

pub returns-clause-written : goal.returns-clause-written
returns-clause-written g c t =
    let at = goal.at.returns-clause-written g c in
    let is = shows g at.After-prepare t (stored g at.After-store_image t) (fronts g at.After-store_image t) in
    always c.finish.result (seen (blocks_of (g.N.Nor.extent c.args.nor.now)) c.finish.new.phase (g.N.Nor.flash c.finish.new.nor).reads ≡ written (plain (blocks_of (g.N.Nor.extent c.args.nor.now)) (g.N.Nor.flash c.args.nor.now).reads) (4096 * c.args.block) c.args.bytes.now)
    ((finished g at.After-finish t).same.reads ∙ (rw (c.prepare.ensures.size ∙ c.store_image.ensures.size) at (c.in-Done-commit.ensures.shown t)) ∙ is)
