use Rattle.std.proofs.Common.{◌≡◌, ◌≤◌, ◌+◌, length, ap, ◌∙◌, arith}
use Rattle.flash_layout.specs.FrameFacts.{facts}
use Rattle.flash_layout.specs.Frames.{record_place}
use Rattle.rollback_record.specs.RecordPage.{record_length}
use Rattle.rollback_record.proofs.Filling.{put_keeps, put_there}
use Rattle.rollback_record.proofs.Widths.{most_few}
use Rattle.rollback_record.proofs.moved.put_record.Given as given
use Rattle.rollback_record.proofs.moved.put_record.Goals as goal
use Rattle.rollback_record.proofs.moved.put_record.Goals.{After-write_at}

long : (g : given.Over) (c : After-write_at g) → length c.as_slice.result.now ≡ record_length c.args.frame
long g c = ap length c.as_slice.ensures ∙ c.spell-page.ensures.long

room : (g : given.Over) (c : After-write_at g) → record_place c.args.frame 0 + record_length c.args.frame ≤ g.D.Disk.extent c.args.disk.now
room g c = let place = facts (g.D.Disk.extent c.args.disk.now) c.args.frame c.requires in omega (arith, place.inside, place.head, most_few c.args.frame)

pub returns-in-Done-clause-page : goal.returns-in-Done-clause-page
returns-in-Done-clause-page g c t =
    let at = (goal.at.returns-in-Done-clause-page g c).After-write_at in
    put_there (g.D.Disk.flash c.args.disk.now).reads (g.D.Disk.flash c.write_at.new.self).reads c.as_slice.result.now c.record_page.result (record_place c.args.frame 0) (record_length c.args.frame) c.record_page.ensures (long g at)
    (omega (arith, room g at, (g.met.D.Disk.obeys c.args.disk.now t).fits)) (c.in-Done.ensures.written t)
    ∙ c.as_slice.ensures ∙ c.spell-page.ensures.bytes

pub returns-in-Done-clause-keeps : goal.returns-in-Done-clause-keeps
returns-in-Done-clause-keeps g c t =
    put_keeps (g.D.Disk.flash c.args.disk.now) (g.D.Disk.flash c.write_at.new.self) c.record_page.result (record_place c.args.frame 0) (record_length c.args.frame) (length c.as_slice.result.now) c.record_page.ensures
    (long g (goal.at.returns-in-Done-clause-keeps g c).After-write_at) (c.write_at.ensures.keeps t)

pub returns-in-Failed-clause-keeps : goal.returns-in-Failed-clause-keeps
returns-in-Failed-clause-keeps g c t =
    put_keeps (g.D.Disk.flash c.args.disk.now) (g.D.Disk.flash c.write_at.new.self) c.record_page.result (record_place c.args.frame 0) (record_length c.args.frame) (length c.as_slice.result.now) c.record_page.ensures
    (long g (goal.at.returns-in-Failed-clause-keeps g c).After-write_at) (c.write_at.ensures.keeps t)
