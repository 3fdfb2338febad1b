use Rattle.std.proofs.Common.{◌≡◌, ◌+◌, IsTrue, Some, refl}
use Rattle.suit_edge.specs.EdgeLaws.{if_done_then}
use Rattle.nor_flash.specs.Blocks.{name_in, named, plain, with_block}
use Rattle.nor_flash.specs.NorDisks.{blocks_of}
use Rattle.nor_flash.proofs.Calm.{Changes, calm_by, changes, sized_by}
use Rattle.nor_flash.proofs.Commit.{committed, named_then, not_committed, shown_then}
use Rattle.nor_flash.proofs.replacing.commit.Given as given
use Rattle.nor_flash.proofs.replacing.commit.Goals as goal
use Rattle.nor_flash.proofs.replacing.commit.Goals.{After-program_name}

module _ (g : given.Over) (c : After-program_name g) (t : IsTrue g.N.Nor.told) where
  last : Changes (g.N.Nor.extent c.args.nor.now) (blocks_of (g.N.Nor.extent c.args.nor.now) + 3) (g.N.Nor.flash c.args.nor.now) (g.N.Nor.flash c.program_name.new.nor)
  last = changes (blocks_of (g.N.Nor.extent c.args.nor.now) + 3) (sized_by (g.N.Nor.extent c.args.nor.now) c.count-image.result c.count-image.ensures.count c.count-image.ensures.few c.count-image.ensures.all) (calm_by refl (g.met.N.Nor.obeys c.args.nor.now t) (g.met.N.Nor.rests c.args.nor.now t) (g.met.N.Nor.cells c.args.nor.now t))
      (calm_by c.program_name.ensures.size (g.met.N.Nor.obeys c.program_name.new.nor t) (g.met.N.Nor.rests c.program_name.new.nor t) (g.met.N.Nor.cells c.program_name.new.nor t)) (c.program_name.ensures.keeps t) (c.program_name.ensures.grows t)

pub returns-clause-committed : goal.returns-clause-committed
returns-clause-committed g c t = committed (last g (goal.at.returns-clause-committed g c).After-program_name t) (c.requires.prepared t)

pub returns-clause-not_committed : goal.returns-clause-not_committed
returns-clause-not_committed g c t = not_committed (last g (goal.at.returns-clause-not_committed g c).After-program_name t) (c.requires.prepared t)

pub returns-clause-named : goal.returns-clause-named
returns-clause-named g c t =
    let m = blocks_of (g.N.Nor.extent c.args.nor.now) in
    let b = (g.N.Nor.flash c.program_name.new.nor).reads in
    if_done_then c.program_name.result (name_in (m + 3) b ≡ c.args.block) (named m b ≡ Some c.args.block) (c.program_name.ensures.named t)
    (named_then (last g (goal.at.returns-clause-named g c).After-program_name t) (c.requires.prepared t) c.requires.within)

pub returns-clause-shown : goal.returns-clause-shown
returns-clause-shown g c t =
    let m = blocks_of (g.N.Nor.extent c.args.nor.now) in
    let b = (g.N.Nor.flash c.program_name.new.nor).reads in
    if_done_then c.program_name.result (name_in (m + 3) b ≡ c.args.block) (plain m b ≡ with_block m c.args.block (g.N.Nor.flash c.args.nor.now).reads) (c.program_name.ensures.named t)
    (shown_then (last g (goal.at.returns-clause-shown g c).After-program_name t) (c.requires.prepared t) c.requires.within)
