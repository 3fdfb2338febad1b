use Rattle.std.proofs.Common.{refl, sym, ◌∙◌}
use Rattle.conformance.specs.Rounds.{said_by}
use Rattle.suit_cli.proofs.DrillTurns.{begins_settled, faults_stay, files_stay, fresh_reads, is_so, left_lives, left_ready, loss_lives, loss_ready, update_ends, update_lost}
use Rattle.suit_cli.proofs.UpdateAnswers.{keeps_named}
use Rattle.suit_cli.proofs.drill.round.update_on.Goals as goal

-- ---- the power was lost

pub returns-then-is_cut-clause-updates : goal.returns-then-is_cut-clause-updates
returns-then-is_cut-clause-updates c =
    let run = c.run_update-answer in
    let lost = c.in_ok-left.ensures in
    update_lost (said_by c.args.round.now) c.in_ok-uris.ensures.named c.in_ok-uris.ensures.asks c.args.flash _ c.args.host.now run.new.host c.new-fuse.result run.new.flash c.in_ok-launcher.launcher run.new.launcher _ c.new-fuse.ensures
    (run.ensures.answer c.in_ok-uris.ensures.named c.in_ok-uris.ensures.uris_are) c.requires.ready c.into_disk-flash.result c.into_disk-flash.ensures c.unwrap_or.ensures (sym c.have_starved.ensures ∙ c.if-have_starved.false)
    (is_so _ _ c.is_cut.ensures c.if-is_cut.true).0 (is_so _ _ c.is_cut.ensures c.if-is_cut.true).1
    (keeps_named _ _ _ c.in_ok-uris.ensures.uris_are _ _ _ (run.ensures.keeps refl (begins_settled c.args.flash _ c.new-fuse.result c.new-fuse.ensures c.requires.ready))) c.in_ok-left.left lost.left lost.may

pub returns-then-is_cut-clause-lives : goal.returns-then-is_cut-clause-lives
returns-then-is_cut-clause-lives c =
    let run = c.run_update-answer in
    let lost = c.in_ok-left.ensures in
    loss_lives c.args.flash _ c.new-fuse.result run.new.flash c.new-fuse.ensures c.requires.ready run.ensures.extent (run.ensures.flash refl) c.into_disk-flash.result c.into_disk-flash.ensures
    c.in_ok-left.left lost.may lost.size lost.settled (fresh_reads c.in_ok-left.left _ _ lost.left)

pub returns-then-is_cut-clause-ready : goal.returns-then-is_cut-clause-ready
returns-then-is_cut-clause-ready c =
    let run = c.run_update-answer in
    let lost = c.in_ok-left.ensures in
    loss_ready c.args.flash _ c.new-fuse.result run.new.flash c.new-fuse.ensures c.requires.ready run.ensures.extent (run.ensures.flash refl) c.into_disk-flash.result c.into_disk-flash.ensures
    c.in_ok-left.left lost.may lost.size lost.settled (fresh_reads c.in_ok-left.left _ _ lost.left)

pub returns-then-is_cut-clause-files : goal.returns-then-is_cut-clause-files
returns-then-is_cut-clause-files c =
    let run = c.run_update-answer in
    files_stay (said_by c.args.round.now) c.in_ok-uris.ensures.named c.in_ok-uris.ensures.asks c.args.flash _ c.args.host.now run.new.host c.new-fuse.result run.new.flash c.in_ok-launcher.launcher run.new.launcher _ c.new-fuse.ensures
    (run.ensures.answer c.in_ok-uris.ensures.named c.in_ok-uris.ensures.uris_are) c.requires.ready c.into_disk-flash.result c.into_disk-flash.ensures

-- ---- it was not

pub returns-clause-updates : goal.returns-clause-updates
returns-clause-updates c =
    let run = c.run_update-answer in
    update_ends (said_by c.args.round.now) c.in_ok-uris.ensures.named c.in_ok-uris.ensures.asks c.args.flash _ c.args.host.now run.new.host c.new-fuse.result run.new.flash c.in_ok-launcher.launcher run.new.launcher _ c.new-fuse.ensures
    (run.ensures.answer c.in_ok-uris.ensures.named c.in_ok-uris.ensures.uris_are) c.requires.ready c.into_disk-flash.result c.into_disk-flash.ensures c.unwrap_or.ensures
    (sym c.have_starved.ensures ∙ c.if-have_starved.false) c.in_ok-end.end c.in_ok-end.ensures

pub returns-clause-lives : goal.returns-clause-lives
returns-clause-lives c =
    let run = c.run_update-answer in
    left_lives c.args.flash _ c.new-fuse.result run.new.flash c.new-fuse.ensures c.requires.ready run.ensures.extent (run.ensures.flash refl) c.into_disk-flash.result c.into_disk-flash.ensures

pub returns-clause-ready : goal.returns-clause-ready
returns-clause-ready c =
    let run = c.run_update-answer in
    left_ready c.args.flash _ c.new-fuse.result run.new.flash c.new-fuse.ensures c.requires.ready run.ensures.extent (run.ensures.flash refl) c.into_disk-flash.result c.into_disk-flash.ensures
    (faults_stay (said_by c.args.round.now) c.in_ok-uris.ensures.named c.in_ok-uris.ensures.asks c.args.flash _ c.args.host.now run.new.host c.new-fuse.result run.new.flash c.in_ok-launcher.launcher run.new.launcher _ c.new-fuse.ensures
    (run.ensures.answer c.in_ok-uris.ensures.named c.in_ok-uris.ensures.uris_are) c.requires.ready c.into_disk-flash.result c.into_disk-flash.ensures c.in_ok-end.end c.in_ok-end.ensures)

pub returns-clause-files : goal.returns-clause-files
returns-clause-files c =
    let run = c.run_update-answer in
    files_stay (said_by c.args.round.now) c.in_ok-uris.ensures.named c.in_ok-uris.ensures.asks c.args.flash _ c.args.host.now run.new.host c.new-fuse.result run.new.flash c.in_ok-launcher.launcher run.new.launcher _ c.new-fuse.ensures
    (run.ensures.answer c.in_ok-uris.ensures.named c.in_ok-uris.ensures.uris_are) c.requires.ready c.into_disk-flash.result c.into_disk-flash.ensures
