use Rattle.std.proofs.Common.{◌≡◌, ◌+◌, ◌*◌, ◌≤◌, ℕ, length}
use Rattle.suit_commands.specs.Numbers.{branches_work, command_work, work_of}
use Rattle.suit_commands.specs.Selections.{Among}
use Rattle.suit_commands.specs.Size.{sequence_size, command_size, branches_size}
use Rattle.suit_cursor.specs.Lending.{command_of}
use Rattle.step_machine.specs.Allowing.{AllowsBranches, AllowsSequence}
use Rattle.step_machine.specs.Fetching.{asked_at}
use Rattle.step_machine.specs.Parts.{branches_part, each_part, sequence_part}
use Rattle.step_machine.specs.Running.{IsReady, IsUnderWay, LeavesWork, moment, selected_list, state_of}
use Rattle.step_machine.specs.Stages.{stage}
use Rattle.step_machine.proofs.Going.{Begun}
use Rattle.step_machine.proofs.Spending.{Leaves}
use Rattle.step_machine.proofs.running.+running.Given as goal

-- ---- each call is of something smaller, or of the same for less

abbrev pub decreases-sequence : goal.decreases-sequence
decreases-sequence g l = 4 * sequence_size l.steps

abbrev pub decreases-command : goal.decreases-command
decreases-command g l = 4 * command_size (command_of l.command) + 2

abbrev pub decreases-each : goal.decreases-each
decreases-each g l = 4 * command_size (command_of l.command) + 1

abbrev pub decreases-at : goal.decreases-at
decreases-at g l = 4 * command_size (command_of l.command)

abbrev pub decreases-run_inner : goal.decreases-run_inner
decreases-run_inner g l = 4 * sequence_size l.inner + 1

abbrev pub decreases-try_each : goal.decreases-try_each
decreases-try_each g l = 4 * branches_size l.branches

abbrev pub decreases-sequence-loop-step : goal.decreases-sequence-loop-step
decreases-sequence-loop-step g l = sequence_size l.steps

abbrev pub decreases-each-loop-component : goal.decreases-each-loop-component
decreases-each-loop-component g l = length (selected_list l.left)

abbrev pub decreases-try_each-loop-branch : goal.decreases-try_each-loop-branch
decreases-try_each-loop-branch g l = branches_size l.branches

-- ---- what is left to do makes the whole

abbrev pub invariant-each-loop-component : goal.invariant-each-loop-component
invariant-each-loop-component g l = record {
  kept : l.command ≡ l.fn.command;
  ready : IsReady l.machine (g.D.Disk.extent l.work.disk.now) l.work.ram.now;
  under_way : IsUnderWay l.machine (state_of l.state);
  same : l.state.selected ≡ l.fn.state.selected;
  among : (k : ℕ) → Among k (selected_list l.left) → Among k (selected_list l.fn.state.selected);
  begun : Begun l.machine (each_part (command_of l.fn.command) l.machine.program.now.count l.place (selected_list l.fn.state.selected))
      (each_part (command_of l.fn.command) l.machine.program.now.count l.place (selected_list l.left))
      (state_of l.fn.state) (stage (moment (record { told = g.H.Host.told; files = g.H.Host.file l.fn.work.host.now; asked = asked_at (g.H.Host.asked l.fn.work.host.now) (g.H.Host.pulled l.fn.work.host.now); faults = g.H.Host.faults l.fn.work.host.now }) (record { told = g.D.Disk.told; size = g.D.Disk.extent l.fn.work.disk.now; flash = g.D.Disk.flash l.fn.work.disk.now; faults = g.D.Disk.faults l.fn.work.disk.now }) (record { told = g.L.Launcher.told; launches = g.L.Launcher.launches l.fn.work.launcher.now; faults = g.L.Launcher.faults l.fn.work.launcher.now }) l.fn.work.ram.now) (record { told = g.T.Trail.told; silent = g.T.Trail.silent; left = g.T.Trail.left l.fn.trail; list = g.T.Trail.list l.fn.trail; room = g.T.Trail.room l.fn.trail; ranges = g.T.Trail.ranges l.fn.trail; holds = g.T.Trail.holds l.fn.trail })) (state_of l.state) (stage (moment (record { told = g.H.Host.told; files = g.H.Host.file l.work.host.now; asked = asked_at (g.H.Host.asked l.work.host.now) (g.H.Host.pulled l.work.host.now); faults = g.H.Host.faults l.work.host.now }) (record { told = g.D.Disk.told; size = g.D.Disk.extent l.work.disk.now; flash = g.D.Disk.flash l.work.disk.now; faults = g.D.Disk.faults l.work.disk.now }) (record { told = g.L.Launcher.told; launches = g.L.Launcher.launches l.work.launcher.now; faults = g.L.Launcher.faults l.work.launcher.now }) l.work.ram.now) (record { told = g.T.Trail.told; silent = g.T.Trail.silent; left = g.T.Trail.left l.trail; list = g.T.Trail.list l.trail; room = g.T.Trail.room l.trail; ranges = g.T.Trail.ranges l.trail; holds = g.T.Trail.holds l.trail }));
  room : Leaves (length (selected_list l.fn.state.selected) * command_work (command_of l.fn.command) l.machine.program.now.count 1) (length (selected_list l.left) * command_work (command_of l.fn.command) l.machine.program.now.count 1)
      (stage (moment (record { told = g.H.Host.told; files = g.H.Host.file l.fn.work.host.now; asked = asked_at (g.H.Host.asked l.fn.work.host.now) (g.H.Host.pulled l.fn.work.host.now); faults = g.H.Host.faults l.fn.work.host.now }) (record { told = g.D.Disk.told; size = g.D.Disk.extent l.fn.work.disk.now; flash = g.D.Disk.flash l.fn.work.disk.now; faults = g.D.Disk.faults l.fn.work.disk.now }) (record { told = g.L.Launcher.told; launches = g.L.Launcher.launches l.fn.work.launcher.now; faults = g.L.Launcher.faults l.fn.work.launcher.now }) l.fn.work.ram.now) (record { told = g.T.Trail.told; silent = g.T.Trail.silent; left = g.T.Trail.left l.fn.trail; list = g.T.Trail.list l.fn.trail; room = g.T.Trail.room l.fn.trail; ranges = g.T.Trail.ranges l.fn.trail; holds = g.T.Trail.holds l.fn.trail })) (stage (moment (record { told = g.H.Host.told; files = g.H.Host.file l.work.host.now; asked = asked_at (g.H.Host.asked l.work.host.now) (g.H.Host.pulled l.work.host.now); faults = g.H.Host.faults l.work.host.now }) (record { told = g.D.Disk.told; size = g.D.Disk.extent l.work.disk.now; flash = g.D.Disk.flash l.work.disk.now; faults = g.D.Disk.faults l.work.disk.now }) (record { told = g.L.Launcher.told; launches = g.L.Launcher.launches l.work.launcher.now; faults = g.L.Launcher.faults l.work.launcher.now }) l.work.ram.now) (record { told = g.T.Trail.told; silent = g.T.Trail.silent; left = g.T.Trail.left l.trail; list = g.T.Trail.list l.trail; room = g.T.Trail.room l.trail; ranges = g.T.Trail.ranges l.trail; holds = g.T.Trail.holds l.trail }));
  leaves : LeavesWork l.machine l.fn.work l.work;
}

abbrev pub invariant-sequence-loop-step : goal.invariant-sequence-loop-step
invariant-sequence-loop-step g l = record {
  few : sequence_size l.steps ≤ sequence_size l.fn.steps;
  ready : IsReady l.machine (g.D.Disk.extent l.work.disk.now) l.work.ram.now;
  under_way : IsUnderWay l.machine (state_of l.state);
  allowed : AllowsSequence l.machine l.steps (selected_list l.state.selected);
  begun : Begun l.machine (sequence_part l.fn.steps l.machine.program.now.count) (sequence_part l.steps l.machine.program.now.count)
      (state_of l.fn.state) (stage (moment (record { told = g.H.Host.told; files = g.H.Host.file l.fn.work.host.now; asked = asked_at (g.H.Host.asked l.fn.work.host.now) (g.H.Host.pulled l.fn.work.host.now); faults = g.H.Host.faults l.fn.work.host.now }) (record { told = g.D.Disk.told; size = g.D.Disk.extent l.fn.work.disk.now; flash = g.D.Disk.flash l.fn.work.disk.now; faults = g.D.Disk.faults l.fn.work.disk.now }) (record { told = g.L.Launcher.told; launches = g.L.Launcher.launches l.fn.work.launcher.now; faults = g.L.Launcher.faults l.fn.work.launcher.now }) l.fn.work.ram.now) (record { told = g.T.Trail.told; silent = g.T.Trail.silent; left = g.T.Trail.left l.fn.trail; list = g.T.Trail.list l.fn.trail; room = g.T.Trail.room l.fn.trail; ranges = g.T.Trail.ranges l.fn.trail; holds = g.T.Trail.holds l.fn.trail })) (state_of l.state) (stage (moment (record { told = g.H.Host.told; files = g.H.Host.file l.work.host.now; asked = asked_at (g.H.Host.asked l.work.host.now) (g.H.Host.pulled l.work.host.now); faults = g.H.Host.faults l.work.host.now }) (record { told = g.D.Disk.told; size = g.D.Disk.extent l.work.disk.now; flash = g.D.Disk.flash l.work.disk.now; faults = g.D.Disk.faults l.work.disk.now }) (record { told = g.L.Launcher.told; launches = g.L.Launcher.launches l.work.launcher.now; faults = g.L.Launcher.faults l.work.launcher.now }) l.work.ram.now) (record { told = g.T.Trail.told; silent = g.T.Trail.silent; left = g.T.Trail.left l.trail; list = g.T.Trail.list l.trail; room = g.T.Trail.room l.trail; ranges = g.T.Trail.ranges l.trail; holds = g.T.Trail.holds l.trail }));
  room : Leaves (work_of l.fn.steps l.machine.program.now.count (length (selected_list l.fn.state.selected))) (work_of l.steps l.machine.program.now.count (length (selected_list l.state.selected)))
      (stage (moment (record { told = g.H.Host.told; files = g.H.Host.file l.fn.work.host.now; asked = asked_at (g.H.Host.asked l.fn.work.host.now) (g.H.Host.pulled l.fn.work.host.now); faults = g.H.Host.faults l.fn.work.host.now }) (record { told = g.D.Disk.told; size = g.D.Disk.extent l.fn.work.disk.now; flash = g.D.Disk.flash l.fn.work.disk.now; faults = g.D.Disk.faults l.fn.work.disk.now }) (record { told = g.L.Launcher.told; launches = g.L.Launcher.launches l.fn.work.launcher.now; faults = g.L.Launcher.faults l.fn.work.launcher.now }) l.fn.work.ram.now) (record { told = g.T.Trail.told; silent = g.T.Trail.silent; left = g.T.Trail.left l.fn.trail; list = g.T.Trail.list l.fn.trail; room = g.T.Trail.room l.fn.trail; ranges = g.T.Trail.ranges l.fn.trail; holds = g.T.Trail.holds l.fn.trail })) (stage (moment (record { told = g.H.Host.told; files = g.H.Host.file l.work.host.now; asked = asked_at (g.H.Host.asked l.work.host.now) (g.H.Host.pulled l.work.host.now); faults = g.H.Host.faults l.work.host.now }) (record { told = g.D.Disk.told; size = g.D.Disk.extent l.work.disk.now; flash = g.D.Disk.flash l.work.disk.now; faults = g.D.Disk.faults l.work.disk.now }) (record { told = g.L.Launcher.told; launches = g.L.Launcher.launches l.work.launcher.now; faults = g.L.Launcher.faults l.work.launcher.now }) l.work.ram.now) (record { told = g.T.Trail.told; silent = g.T.Trail.silent; left = g.T.Trail.left l.trail; list = g.T.Trail.list l.trail; room = g.T.Trail.room l.trail; ranges = g.T.Trail.ranges l.trail; holds = g.T.Trail.holds l.trail }));
  leaves : LeavesWork l.machine l.fn.work l.work;
}

abbrev pub invariant-try_each-loop-branch : goal.invariant-try_each-loop-branch
invariant-try_each-loop-branch g l = record {
  few : branches_size l.branches ≤ branches_size l.fn.branches;
  same : l.state ≡ l.fn.state;
  ready : IsReady l.machine (g.D.Disk.extent l.work.disk.now) l.work.ram.now;
  allowed : AllowsBranches l.machine l.branches l.component;
  begun : Begun l.machine (branches_part l.fn.branches l.machine.program.now.count l.place l.component) (branches_part l.branches l.machine.program.now.count l.place l.component)
      (state_of l.fn.state) (stage (moment (record { told = g.H.Host.told; files = g.H.Host.file l.fn.work.host.now; asked = asked_at (g.H.Host.asked l.fn.work.host.now) (g.H.Host.pulled l.fn.work.host.now); faults = g.H.Host.faults l.fn.work.host.now }) (record { told = g.D.Disk.told; size = g.D.Disk.extent l.fn.work.disk.now; flash = g.D.Disk.flash l.fn.work.disk.now; faults = g.D.Disk.faults l.fn.work.disk.now }) (record { told = g.L.Launcher.told; launches = g.L.Launcher.launches l.fn.work.launcher.now; faults = g.L.Launcher.faults l.fn.work.launcher.now }) l.fn.work.ram.now) (record { told = g.T.Trail.told; silent = g.T.Trail.silent; left = g.T.Trail.left l.fn.trail; list = g.T.Trail.list l.fn.trail; room = g.T.Trail.room l.fn.trail; ranges = g.T.Trail.ranges l.fn.trail; holds = g.T.Trail.holds l.fn.trail })) (state_of l.fn.state) (stage (moment (record { told = g.H.Host.told; files = g.H.Host.file l.work.host.now; asked = asked_at (g.H.Host.asked l.work.host.now) (g.H.Host.pulled l.work.host.now); faults = g.H.Host.faults l.work.host.now }) (record { told = g.D.Disk.told; size = g.D.Disk.extent l.work.disk.now; flash = g.D.Disk.flash l.work.disk.now; faults = g.D.Disk.faults l.work.disk.now }) (record { told = g.L.Launcher.told; launches = g.L.Launcher.launches l.work.launcher.now; faults = g.L.Launcher.faults l.work.launcher.now }) l.work.ram.now) (record { told = g.T.Trail.told; silent = g.T.Trail.silent; left = g.T.Trail.left l.trail; list = g.T.Trail.list l.trail; room = g.T.Trail.room l.trail; ranges = g.T.Trail.ranges l.trail; holds = g.T.Trail.holds l.trail }));
  room : Leaves (branches_work l.fn.branches l.machine.program.now.count) (branches_work l.branches l.machine.program.now.count)
      (stage (moment (record { told = g.H.Host.told; files = g.H.Host.file l.fn.work.host.now; asked = asked_at (g.H.Host.asked l.fn.work.host.now) (g.H.Host.pulled l.fn.work.host.now); faults = g.H.Host.faults l.fn.work.host.now }) (record { told = g.D.Disk.told; size = g.D.Disk.extent l.fn.work.disk.now; flash = g.D.Disk.flash l.fn.work.disk.now; faults = g.D.Disk.faults l.fn.work.disk.now }) (record { told = g.L.Launcher.told; launches = g.L.Launcher.launches l.fn.work.launcher.now; faults = g.L.Launcher.faults l.fn.work.launcher.now }) l.fn.work.ram.now) (record { told = g.T.Trail.told; silent = g.T.Trail.silent; left = g.T.Trail.left l.fn.trail; list = g.T.Trail.list l.fn.trail; room = g.T.Trail.room l.fn.trail; ranges = g.T.Trail.ranges l.fn.trail; holds = g.T.Trail.holds l.fn.trail })) (stage (moment (record { told = g.H.Host.told; files = g.H.Host.file l.work.host.now; asked = asked_at (g.H.Host.asked l.work.host.now) (g.H.Host.pulled l.work.host.now); faults = g.H.Host.faults l.work.host.now }) (record { told = g.D.Disk.told; size = g.D.Disk.extent l.work.disk.now; flash = g.D.Disk.flash l.work.disk.now; faults = g.D.Disk.faults l.work.disk.now }) (record { told = g.L.Launcher.told; launches = g.L.Launcher.launches l.work.launcher.now; faults = g.L.Launcher.faults l.work.launcher.now }) l.work.ram.now) (record { told = g.T.Trail.told; silent = g.T.Trail.silent; left = g.T.Trail.left l.trail; list = g.T.Trail.list l.trail; room = g.T.Trail.room l.trail; ranges = g.T.Trail.ranges l.trail; holds = g.T.Trail.holds l.trail }));
  leaves : LeavesWork l.machine l.fn.work l.work;
}
