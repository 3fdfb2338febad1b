use Rattle.std.proofs.Common.{◌≡◌, ◌*◌, IsTrue, refl, sym, ◌∙◌, arith}
use Rattle.suit_edge.specs.Edge.{IfDone}
use Rattle.suit_edge.specs.EdgeLaws.{if_done_then}
use Rattle.nor_flash.specs.Blocks.{cleared, image_block}
use Rattle.nor_flash.specs.NorDisks.{blocks_of}
use Rattle.nor_flash.proofs.Calm.{Changes, calm_by, changes, changes_then, front_stays, sized_by}
use Rattle.nor_flash.proofs.Replacement.{image_erased, image_steady, image_stored}
use Rattle.nor_flash.proofs.replacing.store_image.Given as given
use Rattle.nor_flash.proofs.replacing.store_image.Goals as goal
use Rattle.nor_flash.proofs.replacing.store_image.Goals.{After-erase, After-program}

module _ (g : given.Over) (c : After-erase g) (t : IsTrue g.N.Nor.told) where
  erase : Changes (g.N.Nor.extent c.args.nor.now) (blocks_of (g.N.Nor.extent c.args.nor.now)) (g.N.Nor.flash c.args.nor.now) (g.N.Nor.flash c.erase.new.nor)
  erase = changes (blocks_of (g.N.Nor.extent c.args.nor.now)) (sized_by (g.N.Nor.extent c.args.nor.now) c.count-image.result c.count-image.ensures.count c.count-image.ensures.few c.count-image.ensures.all) (calm_by refl (g.met.N.Nor.obeys c.args.nor.now t) (g.met.N.Nor.rests c.args.nor.now t) (g.met.N.Nor.cells c.args.nor.now t))
      (calm_by c.erase.ensures.size (g.met.N.Nor.obeys c.erase.new.nor t) (g.met.N.Nor.rests c.erase.new.nor t) (g.met.N.Nor.cells c.erase.new.nor t)) (rw c.count-image.ensures.count at (c.erase.ensures.keeps t)) (c.erase.ensures.grows t)

module _ (g : given.Over) (c : After-program g) (t : IsTrue g.N.Nor.told) where
  program : Changes (g.N.Nor.extent c.args.nor.now) (blocks_of (g.N.Nor.extent c.args.nor.now)) (g.N.Nor.flash c.erase.new.nor) (g.N.Nor.flash c.program.new.self)
  program = changes (blocks_of (g.N.Nor.extent c.args.nor.now)) (sized_by (g.N.Nor.extent c.args.nor.now) c.count-image.result c.count-image.ensures.count c.count-image.ensures.few c.count-image.ensures.all) (calm_by c.erase.ensures.size (g.met.N.Nor.obeys c.erase.new.nor t) (g.met.N.Nor.rests c.erase.new.nor t) (g.met.N.Nor.cells c.erase.new.nor t))
      (calm_by (c.program.ensures.size ∙ c.erase.ensures.size) (g.met.N.Nor.obeys c.program.new.self t) (g.met.N.Nor.rests c.program.new.self t) (g.met.N.Nor.cells c.program.new.self t)) (rw (c.requires.block, c.count-image.ensures.count) at (c.program.ensures.keeps t)) (c.program.ensures.grows t)

pub returns-in-Failed-clause-erased : goal.returns-in-Failed-clause-erased
returns-in-Failed-clause-erased g c t = image_erased (erase g (goal.at.returns-in-Failed-clause-erased g c).After-erase t) (c.requires.erased t)

pub returns-in-Failed-clause-front : goal.returns-in-Failed-clause-front
returns-in-Failed-clause-front g c t = front_stays (erase g (goal.at.returns-in-Failed-clause-front g c).After-erase t) (omega arith)

pub returns-in-Failed-clause-steady : goal.returns-in-Failed-clause-steady
returns-in-Failed-clause-steady g c t = image_steady (erase g (goal.at.returns-in-Failed-clause-steady g c).After-erase t) (c.requires.erased t)

pub returns-clause-erased : goal.returns-clause-erased
returns-clause-erased g c t =
    let at = goal.at.returns-clause-erased g c in
    image_erased (changes_then (erase g at.After-erase t) (program g at.After-program t)) (c.requires.erased t)

pub returns-clause-front : goal.returns-clause-front
returns-clause-front g c t =
    let at = goal.at.returns-clause-front g c in
    front_stays (changes_then (erase g at.After-erase t) (program g at.After-program t)) (omega arith)

pub returns-clause-steady : goal.returns-clause-steady
returns-clause-steady g c t =
    let at = goal.at.returns-clause-steady g c in
    image_steady (changes_then (erase g at.After-erase t) (program g at.After-program t)) (c.requires.erased t)

pub returns-clause-stored : goal.returns-clause-stored
returns-clause-stored g c t =
    let first = erase g (goal.at.returns-clause-stored g c).After-erase t in
    let m = blocks_of (g.N.Nor.extent c.args.nor.now) in
    let b = (g.N.Nor.flash c.erase.new.nor).reads in
    let d = (g.N.Nor.flash c.program.new.self).reads in
    let done : IfDone c.program.result (d ≡ cleared b (4096 * m) c.args.bytes.now) = rw c.count-image.ensures.count at (c.program.ensures.cleared t) in
    if_done_then c.program.result (d ≡ cleared b (4096 * m) c.args.bytes.now) (image_block m d ≡ c.args.bytes.now) done
    (λ is. image_stored m b d c.args.bytes.now (first.sized.all ∙ sym first.to.law.fits) c.requires.block (λ i. (c.type_inv.bytes i).fits) (rw c.count-image.ensures.count at (c.in-Done.ensures.erased t)) is)
