use Rattle.std.proofs.Common.{refl}
use Rattle.suit_cli.proofs.DrillTurns.{boot_ends, boot_faults, left_lives, left_ready}
use Rattle.suit_cli.proofs.drill.round.boot_on.Goals as goal

pub returns-clause-boots : goal.returns-clause-boots
returns-clause-boots c =
    let run = c.run_boot-answer in
    boot_ends c.args.flash _ c.args.host.now run.new.host c.new-fuse.result run.new.flash c.args.launcher.now run.new.launcher _ c.new-fuse.ensures run.ensures.answer c.requires c.into_disk.result c.into_disk.ensures
    c.in_ok-ends_whole.ensures

pub returns-clause-lives : goal.returns-clause-lives
returns-clause-lives c =
    let run = c.run_boot-answer in
    left_lives c.args.flash _ c.new-fuse.result run.new.flash c.new-fuse.ensures c.requires run.ensures.extent (run.ensures.flash refl) c.into_disk.result c.into_disk.ensures

pub returns-clause-ready : goal.returns-clause-ready
returns-clause-ready c =
    let run = c.run_boot-answer in
    left_ready c.args.flash _ c.new-fuse.result run.new.flash c.new-fuse.ensures c.requires run.ensures.extent (run.ensures.flash refl) c.into_disk.result c.into_disk.ensures
    (boot_faults c.args.flash _ c.args.host.now run.new.host c.new-fuse.result run.new.flash c.args.launcher.now run.new.launcher _ c.new-fuse.ensures run.ensures.answer c.requires c.into_disk.result c.into_disk.ensures
    c.in_ok-ends_whole.ensures)
