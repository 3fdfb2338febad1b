use Rattle.std.proofs.Common.{false, [], ◌∷◌, sym, subst}
use Rattle.suit_params.specs.InForce.{Parameters}
use Rattle.step_machine.specs.Programs.{program_tree}
use Rattle.path_model.specs.Behaviour.{State}
use Rattle.step_machine.specs.Parts.{plan_part}
use Rattle.step_machine.specs.Fetching.{asked_at}
use Rattle.step_machine.specs.Running.{AreSources, moment, state_of}
use Rattle.step_machine.specs.Stages.{RunsKept, Stage, stage}
use Rattle.step_machine.proofs.Procedures.{no_sources}
use Rattle.step_machine.proofs.procedure.started.Goals as goal

pub procedure-requires-clause-sources : goal.procedure-requires-clause-sources
procedure-requires-clause-sources g c = subst (λ (ps : Parameters). AreSources c.args.machine.now ps) (sym c.new-params.ensures) (no_sources c.args.machine.now)

pub returns : goal.returns
returns g c =
    let machine = c.args.machine.now in
    let start : Stage = stage (moment (record { told = g.H.Host.told; files = g.H.Host.file c.args.work.now.host.now; asked = asked_at (g.H.Host.asked c.args.work.now.host.now) (g.H.Host.pulled c.args.work.now.host.now); faults = g.H.Host.faults c.args.work.now.host.now }) (record { told = g.D.Disk.told; size = g.D.Disk.extent c.args.work.now.disk.now; flash = g.D.Disk.flash c.args.work.now.disk.now; faults = g.D.Disk.faults c.args.work.now.disk.now }) (record { told = g.L.Launcher.told; launches = g.L.Launcher.launches c.args.work.now.launcher.now; faults = g.L.Launcher.faults c.args.work.now.launcher.now }) c.args.work.now.ram.now) (record { told = g.T.Trail.told; silent = g.T.Trail.silent; left = g.T.Trail.left c.args.trail.now; list = g.T.Trail.list c.args.trail.now; room = g.T.Trail.room c.args.trail.now; ranges = g.T.Trail.ranges c.args.trail.now; holds = g.T.Trail.holds c.args.trail.now }) in
    let n : Stage = stage (moment (record { told = g.H.Host.told; files = g.H.Host.file c.procedure.new.work.host.now; asked = asked_at (g.H.Host.asked c.procedure.new.work.host.now) (g.H.Host.pulled c.procedure.new.work.host.now); faults = g.H.Host.faults c.procedure.new.work.host.now }) (record { told = g.D.Disk.told; size = g.D.Disk.extent c.procedure.new.work.disk.now; flash = g.D.Disk.flash c.procedure.new.work.disk.now; faults = g.D.Disk.faults c.procedure.new.work.disk.now }) (record { told = g.L.Launcher.told; launches = g.L.Launcher.launches c.procedure.new.work.launcher.now; faults = g.L.Launcher.faults c.procedure.new.work.launcher.now }) c.procedure.new.work.ram.now) (record { told = g.T.Trail.told; silent = g.T.Trail.silent; left = g.T.Trail.left c.procedure.new.trail; list = g.T.Trail.list c.procedure.new.trail; room = g.T.Trail.room c.procedure.new.trail; ranges = g.T.Trail.ranges c.procedure.new.trail; holds = g.T.Trail.holds c.procedure.new.trail }) in
    let t : State = state_of c.procedure.new.state in
    record {
      runs = (
        t,
        subst (λ (ps : Parameters). RunsKept machine (plan_part (program_tree machine.program.now)) (record { parameters = ps; selection = 0 ∷ []; soft_failure = false }) start c.procedure.result t n)
            c.new-params.ensures c.procedure.ensures.runs,
      );
      leaves = c.procedure.ensures.leaves;
    }
