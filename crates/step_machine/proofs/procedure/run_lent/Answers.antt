use Rattle.std.proofs.Common.{sym, subst}
use Rattle.suit_commands.specs.Numbers.{work_number}
use Rattle.step_machine.specs.Programs.{program_tree}
use Rattle.step_machine.specs.Fetching.{asked_at}
use Rattle.step_machine.specs.Running.{IsReady, moment}
use Rattle.step_machine.specs.Stages.{HasRoom, IsTrailed, stage}
use Rattle.step_machine.proofs.procedure.run_lent.Goals as goal

pub started-requires-clause-ready : goal.started-requires-clause-ready
started-requires-clause-ready g c =
    subst (λ w. IsReady c.args.machine.now (g.D.Disk.extent w.disk.now) w.ram.now) (sym c.lent-work.ensures) c.requires.ready

pub started-requires-clause-trailed : goal.started-requires-clause-trailed
started-requires-clause-trailed g c =
    subst (λ w. IsTrailed c.args.machine.now (stage (moment (record { told = g.H.Host.told; files = g.H.Host.file w.host.now; asked = asked_at (g.H.Host.asked w.host.now) (g.H.Host.pulled w.host.now); faults = g.H.Host.faults w.host.now }) (record { told = g.D.Disk.told; size = g.D.Disk.extent w.disk.now; flash = g.D.Disk.flash w.disk.now; faults = g.D.Disk.faults w.disk.now }) (record { told = g.L.Launcher.told; launches = g.L.Launcher.launches w.launcher.now; faults = g.L.Launcher.faults w.launcher.now }) w.ram.now) (record { told = g.T.Trail.told; silent = g.T.Trail.silent; left = g.T.Trail.left c.args.trail.now; list = g.T.Trail.list c.args.trail.now; room = g.T.Trail.room c.args.trail.now; ranges = g.T.Trail.ranges c.args.trail.now; holds = g.T.Trail.holds c.args.trail.now }))) (sym c.lent-work.ensures) c.requires.trailed

pub started-requires-clause-room : goal.started-requires-clause-room
started-requires-clause-room g c =
    subst (λ w. HasRoom (stage (moment (record { told = g.H.Host.told; files = g.H.Host.file w.host.now; asked = asked_at (g.H.Host.asked w.host.now) (g.H.Host.pulled w.host.now); faults = g.H.Host.faults w.host.now }) (record { told = g.D.Disk.told; size = g.D.Disk.extent w.disk.now; flash = g.D.Disk.flash w.disk.now; faults = g.D.Disk.faults w.disk.now }) (record { told = g.L.Launcher.told; launches = g.L.Launcher.launches w.launcher.now; faults = g.L.Launcher.faults w.launcher.now }) w.ram.now) (record { told = g.T.Trail.told; silent = g.T.Trail.silent; left = g.T.Trail.left c.args.trail.now; list = g.T.Trail.list c.args.trail.now; room = g.T.Trail.room c.args.trail.now; ranges = g.T.Trail.ranges c.args.trail.now; holds = g.T.Trail.holds c.args.trail.now })) (work_number (program_tree c.args.machine.now.program.now))) (sym c.lent-work.ensures) c.requires.room
