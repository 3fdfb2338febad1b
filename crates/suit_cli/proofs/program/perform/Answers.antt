use Rattle.std.proofs.Common.{Some}
use Rattle.command_words.specs.Said.{said}
use Rattle.suit_cli.proofs.Chains.{anywhere, outside_at}
use Rattle.suit_cli.proofs.BootAnswers.{comes_command, comes_same}
use Rattle.suit_cli.proofs.Leaving.{still}
use Rattle.suit_cli.proofs.Settling.{looked}
use Rattle.suit_cli.proofs.Sounding.{flash_as, if_boots}
use Rattle.suit_cli.proofs.program.perform.Goals as goal

pub returns-in-Make-clause-answer : goal.returns-in-Make-clause-answer
returns-in-Make-clause-answer g c = comes_command c.args.command _ c.in-Make.is _ _ _ _ (c.make_envelope.ensures _)

pub returns-in-Describe-clause-answer : goal.returns-in-Describe-clause-answer
returns-in-Describe-clause-answer g c = comes_command c.args.command _ c.in-Describe.is _ _ _ _ (c.show_description.ensures _)

pub returns-in-Show-clause-answer : goal.returns-in-Show-clause-answer
returns-in-Show-clause-answer g c = comes_command c.args.command _ c.in-Show.is _ _ _ _ (c.show.ensures _)

pub returns-in-Check-clause-answer : goal.returns-in-Check-clause-answer
returns-in-Check-clause-answer g c = comes_command c.args.command _ c.in-Check.is _ _ _ _ (c.check.ensures _)

pub returns-in-Init-clause-answer : goal.returns-in-Init-clause-answer
returns-in-Init-clause-answer g c = comes_command c.args.command _ c.in-Init.is _ _ _ _ c.init.ensures.answer

pub returns-in-Status-clause-answer : goal.returns-in-Status-clause-answer
returns-in-Status-clause-answer g c =
    let h = g.H.Host in
    let here = outside_at h.told (h.file c.args.host.now) (h.pulled c.args.host.now) (h.asked c.args.host.now) (h.faults c.args.host.now) anywhere.flash in
    comes_command c.args.command _ c.in-Status.is _ _ _ _ (c.status.ensures.answer here)

pub returns-in-Boot-clause-answer : goal.returns-in-Boot-clause-answer
returns-in-Boot-clause-answer g c = comes_same c.args.command _ c.in-Boot.is _ _ _ _ _ c.run_boot.ensures.answer

pub returns-in-Boot-clause-unasked : goal.returns-in-Boot-clause-unasked
returns-in-Boot-clause-unasked g c = if_boots (Some (said c.args.command)) _ c.run_boot.ensures.unasked

pub returns-in-Update-clause-answer : goal.returns-in-Update-clause-answer
returns-in-Update-clause-answer g c = comes_same c.args.command _ c.in-Update.is _ _ _ _ _ c.run_update_by.ensures.answer

pub returns-in-Init-clause-flash : goal.returns-in-Init-clause-flash
returns-in-Init-clause-flash g c told =
    flash_as c.args.command _ c.in-Init.is _ _ _
    (record { any_moment = c.init.ensures.any_moment told; sound = tt; settled = c.init.ensures.settled told; keeps = tt })

pub returns-in-Update-clause-flash : goal.returns-in-Update-clause-flash
returns-in-Update-clause-flash g c told =
    flash_as c.args.command _ c.in-Update.is _ _ _
    (record { any_moment = (c.run_update_by.ensures.flash told).any_moment; sound = (c.run_update_by.ensures.flash told).sound; settled = (c.run_update_by.ensures.flash told).settled; keeps = c.run_update_by.ensures.keeps told })

pub returns-in-Boot-clause-flash : goal.returns-in-Boot-clause-flash
returns-in-Boot-clause-flash g c told =
    flash_as c.args.command _ c.in-Boot.is _ _ _
    (record { any_moment = (c.run_boot.ensures.flash told).any_moment; sound = (c.run_boot.ensures.flash told).sound; settled = (c.run_boot.ensures.flash told).settled; keeps = c.run_boot.ensures.keeps told })

pub returns-in-Status-clause-flash : goal.returns-in-Status-clause-flash
returns-in-Status-clause-flash g c told =
    flash_as c.args.command _ c.in-Status.is _ _ _
    (record { any_moment = (c.status.ensures.same told).images; sound = tt; settled = looked _ _ _ _ _ (g.met.D.Disk.obeys c.status.new.flash told) (c.status.ensures.same told); keeps = tt })

pub returns-in-Migrate-clause-answer : goal.returns-in-Migrate-clause-answer
returns-in-Migrate-clause-answer g c =
    let h = g.H.Host in
    let here = outside_at h.told (h.file c.args.host.now) (h.pulled c.args.host.now) (h.asked c.args.host.now) (h.faults c.args.host.now) anywhere.flash in
    comes_command c.args.command _ c.in-Migrate.is _ _ _ _ (c.run_migrate.ensures.answer here)

pub returns-in-Migrate-clause-flash : goal.returns-in-Migrate-clause-flash
returns-in-Migrate-clause-flash g c told =
    flash_as c.args.command _ c.in-Migrate.is _ _ _
    (record { any_moment = c.run_migrate.ensures.any_moment told; sound = c.run_migrate.ensures.sound told; settled = c.run_migrate.ensures.settled told; keeps = c.run_migrate.ensures.keeps told })

pub returns-in-Drill-clause-answer : goal.returns-in-Drill-clause-answer
returns-in-Drill-clause-answer g c = comes_command c.args.command _ c.in-Drill.is _ _ _ _ (c.drill.ensures _)

pub returns-in-Diagnose-clause-answer : goal.returns-in-Diagnose-clause-answer
returns-in-Diagnose-clause-answer g c = comes_command c.args.command _ c.in-Diagnose.is _ _ _ _ (c.diag.ensures _)

pub returns-in-Make-clause-flash : goal.returns-in-Make-clause-flash
returns-in-Make-clause-flash g c told =
    flash_as c.args.command _ c.in-Make.is _ _ _ (record { any_moment = still _; sound = tt; settled = λ settled never. settled; keeps = tt })

pub returns-in-Describe-clause-flash : goal.returns-in-Describe-clause-flash
returns-in-Describe-clause-flash g c told =
    flash_as c.args.command _ c.in-Describe.is _ _ _ (record { any_moment = still _; sound = tt; settled = λ settled never. settled; keeps = tt })

pub returns-in-Show-clause-flash : goal.returns-in-Show-clause-flash
returns-in-Show-clause-flash g c told =
    flash_as c.args.command _ c.in-Show.is _ _ _ (record { any_moment = still _; sound = tt; settled = λ settled never. settled; keeps = tt })

pub returns-in-Check-clause-flash : goal.returns-in-Check-clause-flash
returns-in-Check-clause-flash g c told =
    flash_as c.args.command _ c.in-Check.is _ _ _ (record { any_moment = still _; sound = tt; settled = λ settled never. settled; keeps = tt })

pub returns-in-Drill-clause-flash : goal.returns-in-Drill-clause-flash
returns-in-Drill-clause-flash g c told =
    flash_as c.args.command _ c.in-Drill.is _ _ _ (record { any_moment = still _; sound = tt; settled = λ settled never. settled; keeps = tt })

pub returns-in-Diagnose-clause-flash : goal.returns-in-Diagnose-clause-flash
returns-in-Diagnose-clause-flash g c told =
    flash_as c.args.command _ c.in-Diagnose.is _ _ _ (record { any_moment = still _; sound = tt; settled = λ settled never. settled; keeps = tt })
