use Rattle.std.proofs.Common.{◌+◌, IsTrue, refl, ◌∙◌}
use Rattle.suit_edge.specs.EdgeLaws.{if_done_then}
use Rattle.nor_flash.specs.Blocks.{IsErased}
use Rattle.nor_flash.specs.NorDisks.{AreErased, blocks_of}
use Rattle.nor_flash.proofs.Calm.{Changes, calm_by, changes, sized_by}
use Rattle.nor_flash.proofs.NameSteps.{all_erased, three_names, two_names}
use Rattle.nor_flash.proofs.Steadiness.{quiet_step}
use Rattle.nor_flash.proofs.settling.erase_names.Given as given
use Rattle.nor_flash.proofs.settling.erase_names.Goals as goal
use Rattle.nor_flash.proofs.settling.erase_names.Goals.{After-erase, After-erase-2, After-erase-3}

module _ (g : given.Over) (c : After-erase g) (t : IsTrue g.N.Nor.told) where
  one : Changes (g.N.Nor.extent c.args.nor.now) (blocks_of (g.N.Nor.extent c.args.nor.now) + c.args.first) (g.N.Nor.flash c.args.nor.now) (g.N.Nor.flash c.erase.new.nor)
  one = changes (blocks_of (g.N.Nor.extent c.args.nor.now) + c.args.first) (sized_by (g.N.Nor.extent c.args.nor.now) c.count-image.result c.count-image.ensures.count c.count-image.ensures.few c.count-image.ensures.all) (calm_by refl (g.met.N.Nor.obeys c.args.nor.now t) (g.met.N.Nor.rests c.args.nor.now t) (g.met.N.Nor.cells c.args.nor.now t))
      (calm_by c.erase.ensures.size (g.met.N.Nor.obeys c.erase.new.nor t) (g.met.N.Nor.rests c.erase.new.nor t) (g.met.N.Nor.cells c.erase.new.nor t)) (rw c.count-image.ensures.count at (c.erase.ensures.keeps t)) (c.erase.ensures.grows t)

module _ (g : given.Over) (c : After-erase-2 g) (t : IsTrue g.N.Nor.told) where
  two : Changes (g.N.Nor.extent c.args.nor.now) (blocks_of (g.N.Nor.extent c.args.nor.now) + c.args.second) (g.N.Nor.flash c.erase.new.nor) (g.N.Nor.flash c.erase-2.new.nor)
  two = changes (blocks_of (g.N.Nor.extent c.args.nor.now) + c.args.second) (sized_by (g.N.Nor.extent c.args.nor.now) c.count-image.result c.count-image.ensures.count c.count-image.ensures.few c.count-image.ensures.all) (calm_by c.erase.ensures.size (g.met.N.Nor.obeys c.erase.new.nor t) (g.met.N.Nor.rests c.erase.new.nor t) (g.met.N.Nor.cells c.erase.new.nor t))
      (calm_by (c.erase-2.ensures.size ∙ c.erase.ensures.size) (g.met.N.Nor.obeys c.erase-2.new.nor t) (g.met.N.Nor.rests c.erase-2.new.nor t) (g.met.N.Nor.cells c.erase-2.new.nor t)) (rw c.count-image.ensures.count at (c.erase-2.ensures.keeps t)) (c.erase-2.ensures.grows t)

  erased : IsErased (blocks_of (g.N.Nor.extent c.args.nor.now) + c.args.first) (g.N.Nor.flash c.erase.new.nor).reads
  erased = rw c.count-image.ensures.count at (c.in-Done.ensures.erased t)

module _ (g : given.Over) (c : After-erase-3 g) (t : IsTrue g.N.Nor.told) where
  three : Changes (g.N.Nor.extent c.args.nor.now) (blocks_of (g.N.Nor.extent c.args.nor.now) + 3) (g.N.Nor.flash c.erase-2.new.nor) (g.N.Nor.flash c.erase-3.new.nor)
  three = changes (blocks_of (g.N.Nor.extent c.args.nor.now) + 3) (sized_by (g.N.Nor.extent c.args.nor.now) c.count-image.result c.count-image.ensures.count c.count-image.ensures.few c.count-image.ensures.all) (calm_by (c.erase-2.ensures.size ∙ c.erase.ensures.size) (g.met.N.Nor.obeys c.erase-2.new.nor t) (g.met.N.Nor.rests c.erase-2.new.nor t) (g.met.N.Nor.cells c.erase-2.new.nor t))
      (calm_by (c.erase-3.ensures.size ∙ c.erase-2.ensures.size ∙ c.erase.ensures.size) (g.met.N.Nor.obeys c.erase-3.new.nor t) (g.met.N.Nor.rests c.erase-3.new.nor t) (g.met.N.Nor.cells c.erase-3.new.nor t)) (rw c.count-image.ensures.count at (c.erase-3.ensures.keeps t)) (c.erase-3.ensures.grows t)

pub returns-in-Failed-clause-steady : goal.returns-in-Failed-clause-steady
returns-in-Failed-clause-steady g c t phase can quiet = quiet_step (one g (goal.at.returns-in-Failed-clause-steady g c).After-erase t) quiet

pub returns-in-Failed-erase-clause-steady : goal.returns-in-Failed-erase-clause-steady
returns-in-Failed-erase-clause-steady g c t phase can quiet =
    let at = goal.at.returns-in-Failed-erase-clause-steady g c in
    two_names c.args.first c.args.second c.requires (one g at.After-erase t) (erased g at.After-erase-2 t) (two g at.After-erase-2 t) phase can quiet

pub returns-clause-steady : goal.returns-clause-steady
returns-clause-steady g c t phase can quiet =
    let at = goal.at.returns-clause-steady g c in
    three_names c.args.first c.args.second c.requires (one g at.After-erase t) (erased g at.After-erase-2 t) (two g at.After-erase-2 t) (three g at.After-erase-3 t) phase can quiet

pub returns-clause-erased : goal.returns-clause-erased
returns-clause-erased g c t =
    let at = goal.at.returns-clause-erased g c in
    let m = blocks_of (g.N.Nor.extent c.args.nor.now) in
    let e = (g.N.Nor.flash c.erase-3.new.nor).reads in
    if_done_then c.erase-3.result (IsErased (m + 3) e) (AreErased m e) (rw c.count-image.ensures.count at (c.erase-3.ensures.erased t))
    (all_erased c.args.first c.args.second c.requires (one g at.After-erase t) (erased g at.After-erase-2 t) (two g at.After-erase-2 t) (three g at.After-erase-3 t) (rw c.count-image.ensures.count at (c.in-Done-erase.ensures.erased t)))
