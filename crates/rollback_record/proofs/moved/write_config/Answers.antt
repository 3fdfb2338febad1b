use Rattle.std.proofs.Common.{◌≡◌, ◌≤◌, ◌+◌, length, refl, ap, ◌∙◌, arith}
use Rattle.flash_layout.specs.FrameFacts.{facts}
use Rattle.flash_layout.specs.Frames.{page_bytes}
use Rattle.rollback_record.proofs.Filling.{put_keeps, put_there}
use Rattle.rollback_record.proofs.moved.write_config.Given as given
use Rattle.rollback_record.proofs.moved.write_config.Goals as goal
use Rattle.rollback_record.proofs.moved.write_config.Goals.{After-write_at}

long : (g : given.Over) (c : After-write_at g) → length c.as_slice.result.now ≡ page_bytes c.args.frame
long g c = ap length c.as_slice.ensures ∙ c.write_page-page.ensures.long

room : (g : given.Over) (c : After-write_at g) → c.args.frame.base + page_bytes c.args.frame ≤ g.D.Disk.extent c.args.disk.now
room g c = let place = facts (g.D.Disk.extent c.args.disk.now) c.args.frame c.requires.frame in omega (arith, place.inside, place.page, place.head)

pub returns-in-Done-clause-page : goal.returns-in-Done-clause-page
returns-in-Done-clause-page g c t =
    let at = (goal.at.returns-in-Done-clause-page g c).After-write_at in
    put_there (g.D.Disk.flash c.args.disk.now).reads (g.D.Disk.flash c.write_at.new.self).reads c.as_slice.result.now c.args.frame.base c.args.frame.base (page_bytes c.args.frame) refl (long g at)
    (omega (arith, room g at, (g.met.D.Disk.obeys c.args.disk.now t).fits)) (c.in-Done.ensures.written t)
    ∙ c.as_slice.ensures ∙ c.write_page-page.ensures.bytes

pub returns-in-Done-clause-keeps : goal.returns-in-Done-clause-keeps
returns-in-Done-clause-keeps g c t =
    put_keeps (g.D.Disk.flash c.args.disk.now) (g.D.Disk.flash c.write_at.new.self) c.args.frame.base c.args.frame.base (page_bytes c.args.frame) (length c.as_slice.result.now) refl
    (long g (goal.at.returns-in-Done-clause-keeps g c).After-write_at) (c.write_at.ensures.keeps t)

pub returns-in-Failed-clause-keeps : goal.returns-in-Failed-clause-keeps
returns-in-Failed-clause-keeps g c t =
    put_keeps (g.D.Disk.flash c.args.disk.now) (g.D.Disk.flash c.write_at.new.self) c.args.frame.base c.args.frame.base (page_bytes c.args.frame) (length c.as_slice.result.now) refl
    (long g (goal.at.returns-in-Failed-clause-keeps g c).After-write_at) (c.write_at.ensures.keeps t)
