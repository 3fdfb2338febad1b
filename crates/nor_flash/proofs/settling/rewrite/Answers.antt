use Rattle.std.proofs.Common.{◌≡◌, ◌+◌, ◌*◌, IsTrue, length, refl, ◌∙◌}
use Rattle.std.specs.List.{slice_range}
use Rattle.suit_edge.specs.EdgeLaws.{if_done_then}
use Rattle.nor_flash.specs.Blocks.{cleared, front, with_block}
use Rattle.nor_flash.specs.NorDisks.{blocks_of}
use Rattle.nor_flash.proofs.Calm.{Changes, IsCalm, calm_by, changes, changes_then, sized_by}
use Rattle.nor_flash.proofs.Rewriting.{copied, rewrite_steady, room_size, still_named}
use Rattle.nor_flash.proofs.settling.rewrite.Given as given
use Rattle.nor_flash.proofs.settling.rewrite.Goals as goal
use Rattle.nor_flash.proofs.settling.rewrite.Goals.{After-erase, After-program}

module _ (g : given.Over) (c : After-erase g) (t : IsTrue g.N.Nor.told) where
  erase : Changes (g.N.Nor.extent c.args.nor.now) c.args.block (g.N.Nor.flash c.read_at.new.self) (g.N.Nor.flash c.erase.new.nor)
  erase = changes c.args.block (sized_by (g.N.Nor.extent c.args.nor.now) c.count-image.result c.count-image.ensures.count c.count-image.ensures.few c.count-image.ensures.all) (calm_by c.read_at.ensures.size (g.met.N.Nor.obeys c.read_at.new.self t) (g.met.N.Nor.rests c.read_at.new.self t) (g.met.N.Nor.cells c.read_at.new.self t))
      (calm_by (c.erase.ensures.size ∙ c.read_at.ensures.size) (g.met.N.Nor.obeys c.erase.new.nor t) (g.met.N.Nor.rests c.erase.new.nor t) (g.met.N.Nor.cells c.erase.new.nor t)) (c.erase.ensures.keeps t) (c.erase.ensures.grows t)

  calm_a : IsCalm (g.N.Nor.extent c.args.nor.now) (g.N.Nor.flash c.args.nor.now)
  calm_a = calm_by refl (g.met.N.Nor.obeys c.args.nor.now t) (g.met.N.Nor.rests c.args.nor.now t) (g.met.N.Nor.cells c.args.nor.now t)

  from : c.read_at.new.room ≡ slice_range (g.N.Nor.flash c.args.nor.now).reads (4096 * blocks_of (g.N.Nor.extent c.args.nor.now)) (4096 * blocks_of (g.N.Nor.extent c.args.nor.now) + 4096)
  from = rw c.count-image.ensures.count at (c.in-Done.ensures.bytes t)

  long : length c.read_at.new.room ≡ 4096
  long = room_size erase.sized calm_a c.read_at.new.room from

module _ (g : given.Over) (c : After-program g) (t : IsTrue g.N.Nor.told) (long : length c.read_at.new.room ≡ 4096) where
  program : Changes (g.N.Nor.extent c.args.nor.now) c.args.block (g.N.Nor.flash c.erase.new.nor) (g.N.Nor.flash c.program.new.self)
  program = changes c.args.block (sized_by (g.N.Nor.extent c.args.nor.now) c.count-image.result c.count-image.ensures.count c.count-image.ensures.few c.count-image.ensures.all) (calm_by (c.erase.ensures.size ∙ c.read_at.ensures.size) (g.met.N.Nor.obeys c.erase.new.nor t) (g.met.N.Nor.rests c.erase.new.nor t) (g.met.N.Nor.cells c.erase.new.nor t))
      (calm_by (c.program.ensures.size ∙ c.erase.ensures.size ∙ c.read_at.ensures.size) (g.met.N.Nor.obeys c.program.new.self t) (g.met.N.Nor.rests c.program.new.self t) (g.met.N.Nor.cells c.program.new.self t)) (rw long at (c.program.ensures.keeps t)) (c.program.ensures.grows t)

pub returns-in-Failed-erase-clause-named : goal.returns-in-Failed-erase-clause-named
returns-in-Failed-erase-clause-named g c t is = still_named (erase g (goal.at.returns-in-Failed-erase-clause-named g c).After-erase t) c.requires (c.read_at.ensures.same t) (c.read_at.ensures.grows t) is

pub returns-in-Failed-erase-clause-steady : goal.returns-in-Failed-erase-clause-steady
returns-in-Failed-erase-clause-steady g c t is = rewrite_steady (erase g (goal.at.returns-in-Failed-erase-clause-steady g c).After-erase t) c.requires (c.read_at.ensures.same t) (c.read_at.ensures.grows t) is

pub returns-clause-named : goal.returns-clause-named
returns-clause-named g c t is =
    let at = goal.at.returns-clause-named g c in
    still_named (changes_then (erase g at.After-erase t) (program g at.After-program t (long g at.After-erase t))) c.requires (c.read_at.ensures.same t) (c.read_at.ensures.grows t) is

pub returns-clause-steady : goal.returns-clause-steady
returns-clause-steady g c t is =
    let at = goal.at.returns-clause-steady g c in
    rewrite_steady (changes_then (erase g at.After-erase t) (program g at.After-program t (long g at.After-erase t))) c.requires (c.read_at.ensures.same t) (c.read_at.ensures.grows t) is

pub returns-clause-copied : goal.returns-clause-copied
returns-clause-copied g c t =
    let at = goal.at.returns-clause-copied g c in
    let m = blocks_of (g.N.Nor.extent c.args.nor.now) in
    let d = (g.N.Nor.flash c.erase.new.nor).reads in
    let e = (g.N.Nor.flash c.program.new.self).reads in
    if_done_then c.program.result (e ≡ cleared d (4096 * c.args.block) c.read_at.new.room) (with_block m c.args.block e ≡ front m e) (c.program.ensures.cleared t)
    (copied (erase g at.After-erase t) (program g at.After-program t (long g at.After-erase t)) c.requires (calm_a g at.After-erase t) (c.read_at.ensures.same t) c.read_at.new.room (from g at.After-erase t)
    (c.in-Done-erase.ensures.erased t))
