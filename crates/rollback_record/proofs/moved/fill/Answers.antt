use Rattle.std.proofs.Common.{IsTrue, ◌∙◌}
use Rattle.suit_edge.specs.Flash.{Keeps}
use Rattle.suit_edge.specs.FlashLaws.{keeps_fewer, keeps_then}
use Rattle.flash_layout.specs.Formats.{OutsideWorkGates}
use Rattle.rollback_record.specs.Moved.{OutsideBank, OutsideFrame, OutsidePage, OutsideRecords}
use Rattle.rollback_record.proofs.Filling.{bank_fewer, filled, page_fewer, records_fewer, work_fewer}
use Rattle.rollback_record.proofs.moved.fill.Given as given
use Rattle.rollback_record.proofs.moved.fill.Goals as goal
use Rattle.rollback_record.proofs.moved.fill.Goals.{After-close_work, After-write_config, After-write_envelope, After-write_records}

once : (g : given.Over) (c : After-write_config g) → IsTrue g.D.Disk.told → Keeps (OutsideFrame c.args.frame) (g.D.Disk.flash c.args.disk.now) (g.D.Disk.flash c.write_config.new.disk)
once g c t = keeps_fewer (OutsideFrame c.args.frame) (OutsidePage c.args.frame) (page_fewer (g.D.Disk.extent c.args.disk.now) c.args.frame c.requires.frame c.requires.version) _ _ (c.write_config.ensures.keeps t)

twice : (g : given.Over) (c : After-write_records g) → IsTrue g.D.Disk.told → Keeps (OutsideFrame c.args.frame) (g.D.Disk.flash c.args.disk.now) (g.D.Disk.flash c.write_config.new.disk)
    → Keeps (OutsideFrame c.args.frame) (g.D.Disk.flash c.args.disk.now) (g.D.Disk.flash c.write_records.new.disk)
twice g c t before =
    keeps_then (OutsideFrame c.args.frame) _ (g.D.Disk.flash c.write_config.new.disk) _ _ (g.met.D.Disk.obeys c.write_config.new.disk t) before
    (keeps_fewer (OutsideFrame c.args.frame) (OutsideRecords c.args.frame) (records_fewer (g.D.Disk.extent c.args.disk.now) c.args.frame c.requires.frame c.requires.version) _ _ (c.write_records.ensures.keeps t))

thrice : (g : given.Over) (c : After-write_envelope g) → IsTrue g.D.Disk.told → Keeps (OutsideFrame c.args.frame) (g.D.Disk.flash c.args.disk.now) (g.D.Disk.flash c.write_records.new.disk)
    → Keeps (OutsideFrame c.args.frame) (g.D.Disk.flash c.args.disk.now) (g.D.Disk.flash c.write_envelope.new.disk)
thrice g c t before =
    keeps_then (OutsideFrame c.args.frame) _ (g.D.Disk.flash c.write_records.new.disk) _ _ (g.met.D.Disk.obeys c.write_records.new.disk t) before
    (keeps_fewer (OutsideFrame c.args.frame) (OutsideBank c.args.frame) (bank_fewer (g.D.Disk.extent c.args.disk.now) c.args.frame c.requires.frame c.requires.version) _ _ (c.write_envelope.ensures.keeps t))

last : (g : given.Over) (c : After-close_work g) → IsTrue g.D.Disk.told → Keeps (OutsideFrame c.args.frame) (g.D.Disk.flash c.args.disk.now) (g.D.Disk.flash c.write_envelope.new.disk)
    → Keeps (OutsideFrame c.args.frame) (g.D.Disk.flash c.args.disk.now) (g.D.Disk.flash c.close_work.new.disk)
last g c t before =
    keeps_then (OutsideFrame c.args.frame) _ (g.D.Disk.flash c.write_envelope.new.disk) _ _ (g.met.D.Disk.obeys c.write_envelope.new.disk t) before
    (keeps_fewer (OutsideFrame c.args.frame) (OutsideWorkGates c.args.frame) (work_fewer (g.D.Disk.extent c.args.disk.now) c.args.frame c.requires.frame c.requires.version) _ _ (c.close_work.ensures.keeps t))

pub returns-in-Failed-clause-keeps : goal.returns-in-Failed-clause-keeps
returns-in-Failed-clause-keeps g c t = once g (goal.at.returns-in-Failed-clause-keeps g c).After-write_config t

pub returns-in-Failed-write_records-clause-keeps : goal.returns-in-Failed-write_records-clause-keeps
returns-in-Failed-write_records-clause-keeps g c t =
    let at = goal.at.returns-in-Failed-write_records-clause-keeps g c in
    twice g at.After-write_records t (once g at.After-write_config t)

pub returns-in-Failed-write_envelope-clause-keeps :
    goal.returns-in-Failed-write_envelope-clause-keeps
returns-in-Failed-write_envelope-clause-keeps g c t =
    let at = goal.at.returns-in-Failed-write_envelope-clause-keeps g c in
    thrice g at.After-write_envelope t (twice g at.After-write_records t (once g at.After-write_config t))

pub returns-in-Failed-close_work-clause-keeps : goal.returns-in-Failed-close_work-clause-keeps
returns-in-Failed-close_work-clause-keeps g c t =
    let at = goal.at.returns-in-Failed-close_work-clause-keeps g c in
    last g at.After-close_work t (thrice g at.After-write_envelope t (twice g at.After-write_records t (once g at.After-write_config t)))

pub returns-in-Done-close_work-clause-keeps : goal.returns-in-Done-close_work-clause-keeps
returns-in-Done-close_work-clause-keeps g c t =
    let at = goal.at.returns-in-Done-close_work-clause-keeps g c in
    last g at.After-close_work t (thrice g at.After-write_envelope t (twice g at.After-write_records t (once g at.After-write_config t)))

pub returns-in-Done-close_work-clause-filled : goal.returns-in-Done-close_work-clause-filled
returns-in-Done-close_work-clause-filled g c t =
    let long = (g.met.D.Disk.obeys c.close_work.new.disk t).fits ∙ c.close_work.ensures.size ∙ c.write_envelope.ensures.size ∙ c.write_records.ensures.size ∙ c.write_config.ensures.size in
    filled (g.D.Disk.extent c.args.disk.now) c.args.frame c.requires.frame c.requires.version c.args.layout.now c.args.key.now c.args.installed.now c.requires.room
    (g.D.Disk.flash c.write_config.new.disk).reads (g.D.Disk.flash c.write_records.new.disk).reads (g.D.Disk.flash c.write_envelope.new.disk).reads (g.D.Disk.flash c.close_work.new.disk).reads long
    (c.write_records.ensures.keeps t).reads (c.write_envelope.ensures.keeps t).reads (c.close_work.ensures.keeps t).reads
    (c.in-Done.ensures.page t) (c.in-Done-write_records.ensures.pages t) (c.in-Done-write_envelope.ensures.envelope t) (c.in-Done-close_work.ensures.closed t)
