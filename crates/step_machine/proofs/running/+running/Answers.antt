use Rattle.std.proofs.Common.{◌≡◌, ◌<◌, ◌*◌, ◌∙◌, ℕ, List, [], ◌∷◌, length, refl, sym, ap, subst, arith}
use Rattle.std.specs.List.{AllByRecursion}
use Rattle.std.proofs.lemmas.Result.{err_from_is_err_and}
use Rattle.suit_commands.specs.Numbers.{branches_work, command_work, count_after, work_of}
use Rattle.suit_commands.specs.Selections.{Among}
use Rattle.suit_commands.specs.Size.{command_size}
use Rattle.suit_commands.specs.Tree.{BranchesTree, BranchThen, NullThen}
use Rattle.suit_commands.specs.SequenceJudging.{branch_before}
use Rattle.suit_cursor.specs.declared.branches.LentBranch.{LentBranch}
use Rattle.suit_cursor.specs.declared.command.LentCommand.{LentCommand}
use Rattle.suit_cursor.specs.Lending.{branch_of, command_of, selection_of}
use Rattle.step_machine.specs.declared.progress.Selected.{Selected}
use Rattle.step_machine.specs.Allowing.{AllowsBranches, AllowsCommand, AllowsSequence}
use Rattle.step_machine.specs.Running.{AreSources, IsUnderWay, selected_list, state_of}
use Rattle.step_machine.specs.declared.progress.Progress.{Progress}
use Rattle.path_model.specs.Behaviour.{State}
use Rattle.step_machine.proofs.Allowed.{allows_at, allows_branch, allows_others, below_among, ready_after}
use Rattle.step_machine.proofs.Going.{begun}
use Rattle.step_machine.proofs.Leaving.{leaves_start, leaves_then}
use Rattle.step_machine.proofs.Spending.{branch_work, each_work, first_work, leaves_all, leaves_done, leaves_next, leaves_stopped, next_work, room_next, same_left, softly_spends, spends_as, step_work}
use Rattle.step_machine.proofs.Parting.{runs_index, runs_nothing, runs_override}
use Rattle.step_machine.proofs.Sourcing.{sources_overridden}
use Rattle.step_machine.proofs.Turns.{at_as, each_as, each_begun, is_each, none_selected, on_ok, index_as, step_allowed, step_smaller, later_allowed, step_done, step_stopped, step_selects, steps_done, rest_smaller, first_among, rest_among, one_done, one_stopped, each_done, branch_smaller, none_left, null_done, try_done, try_stopped, try_next, inner_out, inner_ran, inner_softly}
use Rattle.step_machine.proofs.running.+running.Goals as goal

-- ---- one command

pub at-returns-in-Index-clause-runs : goal.at-returns-in-Index-clause-runs
at-returns-in-Index-clause-runs g t c =
    at_as c.args.machine.now c.args.machine.now.program.now.count c.args.place c.args.component _ _ c.in-Index.is _ _ _ _ _ (runs_nothing c.args.machine.now _ _ c.requires.under_way.sources c.requires.trailed)

pub at-returns-in-Override-clause-runs : goal.at-returns-in-Override-clause-runs
at-returns-in-Override-clause-runs g t c =
    let sources = sources_overridden c.args.machine.now c.args.state.now.params c.override_with.new.state.params c.args.component c.in-Override.list _ _ c.requires.inside c.requires.ready c.args.command c.in-Override.is c.requires.allowed c.override_with.ensures.last c.requires.under_way.sources in
    at_as c.args.machine.now c.args.machine.now.program.now.count c.args.place c.args.component _ _ c.in-Override.is _ _ _ _ _ (runs_override c.args.machine.now c.in-Override.list c.args.machine.now.program.now.count c.args.place c.args.component _ _ _ sources c.requires.trailed c.override_with.ensures.after)

pub command-returns-in-Index-clause-runs : goal.command-returns-in-Index-clause-runs
command-returns-in-Index-clause-runs g t c =
    let state = c.args.state.now in
    index_as c.args.machine.now c.args.command _ c.args.machine.now.program.now.count c.args.place c.in-Index.is _ _ _ _ _
    (runs_index c.args.machine.now (selection_of c.in-Index.selection) c.args.machine.now.program.now.count c.args.place (state_of state) _ _ c.requires.under_way.sources c.requires.trailed
    (ap (λ (l : List ℕ). record { parameters = state.params; selection = l; soft_failure = state.soft_failure }) c.by-state.ensures))

pub command-returns-in_default : goal.command-returns-in_default
command-returns-in_default g t c =
    let each = is_each c.args.command c.in_default.not-Index in
    record {
      runs = each_as c.args.machine.now c.args.command c.args.command c.args.machine.now.program.now.count c.args.place refl each _ _ _ _ _ c.each.ensures.runs;
      room = spends_as _ _ _ _ _ (each_work (command_of c.args.command) c.args.machine.now.program.now.count (length (selected_list c.args.state.now.selected)) each) c.each.ensures.room;
      leaves = c.each.ensures.leaves;
      selected = on_ok c.each.result _ (ap selected_list c.each.ensures.selected ∙ sym (none_selected (command_of c.args.command) c.args.machine.now.program.now.count (selected_list c.args.state.now.selected) each));
    }

-- ---- each selected component

pub each-loop-component-init : goal.each-loop-component-init
each-loop-component-init g t c =
    let state = c.args.state.now in
    record {
      kept = refl;
      ready = c.requires.ready;
      under_way = subst (λ (x : Selected). IsUnderWay c.args.machine.now (state_of (record { params = state.params; selected = x; soft_failure = state.soft_failure }))) (sym c.copy-left.ensures.same) c.requires.under_way;
      same = c.copy-left.ensures.same;
      among = λ k h. subst (λ (x : Selected). Among k (selected_list x)) c.copy-left.ensures.copied h;
      begun = each_begun c.args.machine.now (command_of c.args.command) c.args.place state c.copy-left.result c.copy-left.new.self _ c.copy-left.ensures.copied c.copy-left.ensures.same c.requires.under_way.sources c.requires.trailed;
      room = leaves_all _ _ _ (same_left c.copy-left.result c.args.state.now.selected (command_work (command_of c.args.command) c.args.machine.now.program.now.count 1) c.copy-left.ensures.copied);
      leaves = leaves_start _ _;
    }

pub each-at-requires : goal.each-at-requires
each-at-requires g t c κs within =
    let inv = c.loop-component.invariant in
    let same : c.command_again-again.result ≡ c.args.command = c.command_again-again.ensures.copied ∙ inv.kept in
    let e : command_size (command_of c.command_again-again.result) ≡ command_size (command_of c.args.command) = ap (λ (x : LentCommand). command_size (command_of x)) same in
    let among = inv.among c.in-Some.component (first_among c.args.machine.now (command_of c.args.command) c.args.place (selected_list c.loop-component.left) (selected_list c.next.new.self) c.in-Some.component c.in-Some.ensures) in
    let inside = below_among (selected_list c.args.state.now.selected) c.in-Some.component (length c.args.machine.now.standings.now) among c.requires.under_way.selection in
    let allowed = subst (λ (x : LentCommand). AllowsCommand c.args.machine.now (command_of x) (c.in-Some.component ∷ [])) (sym same) (allows_at c.args.machine.now (command_of c.args.command) (selected_list c.args.state.now.selected) c.in-Some.component among c.requires.allowed) in
    (omega (arith, e, c.decreases), (within.0, (within.1.0, (within.1.1.0, (within.1.1.1, (inv.ready, (inside, (allowed, (inv.under_way, (inv.begun.trailed, room_next (length (selected_list c.args.state.now.selected) * (command_work (command_of c.args.command) c.args.machine.now.program.now.count 1)) (length (selected_list c.loop-component.left) * (command_work (command_of c.args.command) c.args.machine.now.program.now.count 1)) (command_work (command_of c.command_again-again.result) c.args.machine.now.program.now.count 1) (length (selected_list c.next.new.self) * (command_work (command_of c.args.command) c.args.machine.now.program.now.count 1)) _ _ inv.room (next_work (selected_list c.loop-component.left) (selected_list c.next.new.self) c.in-Some.component (command_work (command_of c.args.command) c.args.machine.now.program.now.count 1) (command_work (command_of c.command_again-again.result) c.args.machine.now.program.now.count 1) c.in-Some.ensures (ap (λ (x : LentCommand). command_work (command_of x) c.args.machine.now.program.now.count 1) same)) c.requires.room))))))))))

pub each-loop-component-preserved : goal.each-loop-component-preserved
each-loop-component-preserved g t c =
    let inv = c.loop-component.invariant in
    let done = c.in_ok-at.ensures in
    let same : c.command_again-again.result ≡ c.args.command = c.command_again-again.ensures.copied ∙ inv.kept in
    record {
      kept = c.command_again-again.ensures.same ∙ inv.kept;
      ready = ready_after c.args.machine.now _ _ done.runs.stays.outside inv.ready;
      under_way = record {
        sources = done.runs.sources;
        selection = subst (λ (x : Selected). AllByRecursion (λ k. k < length c.args.machine.now.standings.now) (selected_list x)) (sym done.selected) inv.under_way.selection;
      };
      same = done.selected ∙ inv.same;
      among = λ k h. inv.among k (rest_among c.args.machine.now (command_of c.args.command) c.args.place (selected_list c.loop-component.left) (selected_list c.next.new.self) c.in-Some.component c.in-Some.ensures k h);
      begun = one_done c.args.machine.now (command_of c.args.command) c.args.place (selected_list c.loop-component.left) (selected_list c.next.new.self) c.in-Some.component c.in-Some.ensures _ _ _ _ _ inv.begun (λ told. g.met.D.Disk.obeys c.loop-component.work.disk.now told) _ _ c.in_ok-at.field-0
          (at_as c.args.machine.now c.args.machine.now.program.now.count c.args.place c.in-Some.component c.args.command c.command_again-again.result (sym same) _ _ _ _ _ done.runs);
      room = leaves_next (length (selected_list c.args.state.now.selected) * (command_work (command_of c.args.command) c.args.machine.now.program.now.count 1)) (length (selected_list c.loop-component.left) * (command_work (command_of c.args.command) c.args.machine.now.program.now.count 1)) (command_work (command_of c.command_again-again.result) c.args.machine.now.program.now.count 1) (length (selected_list c.next.new.self) * (command_work (command_of c.args.command) c.args.machine.now.program.now.count 1)) _ _ inv.room (next_work (selected_list c.loop-component.left) (selected_list c.next.new.self) c.in-Some.component (command_work (command_of c.args.command) c.args.machine.now.program.now.count 1) (command_work (command_of c.command_again-again.result) c.args.machine.now.program.now.count 1) c.in-Some.ensures (ap (λ (x : LentCommand). command_work (command_of x) c.args.machine.now.program.now.count 1) same)) _ _ done.room;
      leaves = leaves_then inv.leaves done.leaves;
    }

pub each-returns-in_err-at-clause-runs : goal.each-returns-in_err-at-clause-runs
each-returns-in_err-at-clause-runs g t c =
    let inv = c.loop-component.invariant in
    let same : c.command_again-again.result ≡ c.args.command = c.command_again-again.ensures.copied ∙ inv.kept in
    let p = err_from_is_err_and c.from_residual.result c.from_residual.ensures.1 in
    rw (p.1, p.2) (one_stopped c.args.machine.now (command_of c.args.command) c.args.place (selected_list c.loop-component.left) (selected_list c.next.new.self) c.in-Some.component c.in-Some.ensures _ _ _ _ _ inv.begun (λ told. g.met.D.Disk.obeys c.loop-component.work.disk.now told) _ _ c.in_err-at.field-0.0
    (at_as c.args.machine.now c.args.machine.now.program.now.count c.args.place c.in-Some.component c.args.command c.command_again-again.result (sym same) _ _ _ _ _ c.in_err-at.ensures.runs))

pub each-returns-in_err-at-clause-room : goal.each-returns-in_err-at-clause-room
each-returns-in_err-at-clause-room g t c =
    let inv = c.loop-component.invariant in
    let same : c.command_again-again.result ≡ c.args.command = c.command_again-again.ensures.copied ∙ inv.kept in
    let p = err_from_is_err_and c.from_residual.result c.from_residual.ensures.1 in
    rw (p.1, p.2) (leaves_stopped (length (selected_list c.args.state.now.selected) * (command_work (command_of c.args.command) c.args.machine.now.program.now.count 1)) (length (selected_list c.loop-component.left) * (command_work (command_of c.args.command) c.args.machine.now.program.now.count 1)) (command_work (command_of c.command_again-again.result) c.args.machine.now.program.now.count 1) (length (selected_list c.next.new.self) * (command_work (command_of c.args.command) c.args.machine.now.program.now.count 1)) _ _ inv.room (next_work (selected_list c.loop-component.left) (selected_list c.next.new.self) c.in-Some.component (command_work (command_of c.args.command) c.args.machine.now.program.now.count 1) (command_work (command_of c.command_again-again.result) c.args.machine.now.program.now.count 1) c.in-Some.ensures (ap (λ (x : LentCommand). command_work (command_of x) c.args.machine.now.program.now.count 1) same)) _ _ c.in_err-at.ensures.room)

pub each-returns-clause-room : goal.each-returns-clause-room
each-returns-clause-room g t c = leaves_done _ _ _ _ _ c.loop-component.invariant.room

pub each-returns-in_err-at-clause-leaves : goal.each-returns-in_err-at-clause-leaves
each-returns-in_err-at-clause-leaves g t c = leaves_then c.loop-component.invariant.leaves c.in_err-at.ensures.leaves

pub each-returns-clause-runs : goal.each-returns-clause-runs
each-returns-clause-runs g t c =
    each_done c.args.machine.now (command_of c.args.command) c.args.place (selected_list c.loop-component.left) _ _ _ _ _ c.in_default.ensures.0 (λ told. g.met.D.Disk.obeys c.loop-component.work.disk.now told) c.loop-component.invariant.begun

-- ---- steps

pub sequence-loop-step-init : goal.sequence-loop-step-init
sequence-loop-step-init g t c =
    record {
      few = omega arith;
      ready = c.requires.ready;
      under_way = c.requires.under_way;
      allowed = c.requires.allowed;
      begun = begun c.args.machine.now _ _ _ c.requires.under_way.sources c.requires.trailed;
      room = leaves_all _ _ _ refl;
      leaves = leaves_start _ _;
    }

pub sequence-command-requires : goal.sequence-command-requires
sequence-command-requires g t c κs within =
    let inv = c.loop-step.invariant in
    let step = c.in-Some.step in
    let smaller = step_smaller c.args.machine.now c.loop-step.steps c.next.new.self step.place (command_of step.command) c.in-Some.ensures in
    let allowed = step_allowed c.args.machine.now c.loop-step.steps c.next.new.self step.place (command_of step.command) c.in-Some.ensures (selected_list c.loop-step.state.selected) inv.allowed in
    let room = room_next (work_of c.args.steps c.args.machine.now.program.now.count (length (selected_list c.args.state.now.selected))) (work_of c.loop-step.steps c.args.machine.now.program.now.count (length (selected_list c.loop-step.state.selected))) (command_work (command_of step.command) c.args.machine.now.program.now.count (length (selected_list c.loop-step.state.selected))) (work_of c.next.new.self c.args.machine.now.program.now.count (count_after (command_of step.command) c.args.machine.now.program.now.count (length (selected_list c.loop-step.state.selected)))) _ _ inv.room (first_work c.loop-step.steps c.next.new.self (command_of step.command) step.place c.args.machine.now.program.now.count (selected_list c.loop-step.state.selected) c.in-Some.ensures) c.requires.room in
    (omega (arith, inv.few, smaller, c.decreases), (within.0, (within.1.0, (within.1.1.0, (within.1.1.1, (inv.ready, (allowed, (inv.under_way, (inv.begun.trailed, room)))))))))

pub sequence-loop-step-preserved : goal.sequence-loop-step-preserved
sequence-loop-step-preserved g t c =
    let inv = c.loop-step.invariant in
    let done = c.in_ok-command.ensures in
    let step = c.in-Some.step in
    let before = selected_list c.loop-step.state.selected in
    let after = selected_list c.command.new.state.selected in
    record {
      few = omega (arith, inv.few, rest_smaller c.args.machine.now c.loop-step.steps c.next.new.self step.place (command_of step.command) c.in-Some.ensures);
      ready = ready_after c.args.machine.now _ _ done.runs.stays.outside inv.ready;
      under_way = record {
        sources = done.runs.sources;
        selection = step_selects c.args.machine.now (command_of step.command) before after inv.ready.count (step_allowed c.args.machine.now c.loop-step.steps c.next.new.self step.place (command_of step.command) c.in-Some.ensures before inv.allowed) done.selected inv.under_way.selection;
      };
      allowed = later_allowed c.args.machine.now c.loop-step.steps c.next.new.self step.place (command_of step.command) c.in-Some.ensures before after inv.allowed done.selected;
      begun = step_done c.args.machine.now c.loop-step.steps c.next.new.self step.place (command_of step.command) c.in-Some.ensures _ _ _ _ _ inv.begun (λ told. g.met.D.Disk.obeys c.loop-step.work.disk.now told) _ _ c.in_ok-command.field-0 done.runs;
      room = leaves_next (work_of c.args.steps c.args.machine.now.program.now.count (length (selected_list c.args.state.now.selected))) (work_of c.loop-step.steps c.args.machine.now.program.now.count (length (selected_list c.loop-step.state.selected))) (command_work (command_of step.command) c.args.machine.now.program.now.count (length (selected_list c.loop-step.state.selected))) (work_of c.next.new.self c.args.machine.now.program.now.count (length after)) _ _ inv.room (step_work c.loop-step.steps c.next.new.self (command_of step.command) step.place c.args.machine.now.program.now.count before after c.in-Some.ensures done.selected) _ _ done.room;
      leaves = leaves_then inv.leaves done.leaves;
    }

pub sequence-returns-in_err-command-clause-runs : goal.sequence-returns-in_err-command-clause-runs
sequence-returns-in_err-command-clause-runs g t c =
    let step = c.in-Some.step in
    let p = err_from_is_err_and c.from_residual.result c.from_residual.ensures.1 in
    rw (p.1, p.2) (step_stopped c.args.machine.now c.loop-step.steps c.next.new.self step.place (command_of step.command) c.in-Some.ensures _ _ _ _ _ c.loop-step.invariant.begun (λ told. g.met.D.Disk.obeys c.loop-step.work.disk.now told) _ _ c.in_err-command.field-0.0 c.in_err-command.ensures.runs)

pub sequence-returns-in_err-command-clause-room : goal.sequence-returns-in_err-command-clause-room
sequence-returns-in_err-command-clause-room g t c =
    let step = c.in-Some.step in
    let p = err_from_is_err_and c.from_residual.result c.from_residual.ensures.1 in
    rw (p.1, p.2) (leaves_stopped (work_of c.args.steps c.args.machine.now.program.now.count (length (selected_list c.args.state.now.selected))) (work_of c.loop-step.steps c.args.machine.now.program.now.count (length (selected_list c.loop-step.state.selected))) (command_work (command_of step.command) c.args.machine.now.program.now.count (length (selected_list c.loop-step.state.selected))) (work_of c.next.new.self c.args.machine.now.program.now.count (count_after (command_of step.command) c.args.machine.now.program.now.count (length (selected_list c.loop-step.state.selected)))) _ _ c.loop-step.invariant.room (first_work c.loop-step.steps c.next.new.self (command_of step.command) step.place c.args.machine.now.program.now.count (selected_list c.loop-step.state.selected) c.in-Some.ensures) _ _ c.in_err-command.ensures.room)

pub sequence-returns-clause-room : goal.sequence-returns-clause-room
sequence-returns-clause-room g t c = leaves_done _ _ _ _ _ c.loop-step.invariant.room

pub sequence-returns-in_err-command-clause-leaves : goal.sequence-returns-in_err-command-clause-leaves
sequence-returns-in_err-command-clause-leaves g t c = leaves_then c.loop-step.invariant.leaves c.in_err-command.ensures.leaves

pub sequence-returns-clause-runs : goal.sequence-returns-clause-runs
sequence-returns-clause-runs g t c =
    steps_done c.args.machine.now c.loop-step.steps _ _ _ _ _ c.in_default.ensures.0 (λ told. g.met.D.Disk.obeys c.loop-step.work.disk.now told) c.loop-step.invariant.begun

-- ---- inner sequences

pub run_inner-returns-in-Some-clause-runs : goal.run_inner-returns-in-Some-clause-runs
run_inner-returns-in-Some-clause-runs g t c =
    inner_out c.args.machine.now c.args.inner c.args.component (state_of c.args.state.now) (state_of c.enter-outer.new.self) c.enter-outer.ensures.inner _ _ (state_of c.sequence.new.state) (state_of c.enter-outer.result) (ap state_of c.enter-outer.ensures.outer) c.requires.under_way.sources c.in-Err.stop c.in-Some.stop (sym c.passed_on.ensures ∙ c.in-Some.is) c.in-Err.ensures.runs

pub run_inner-returns-in-Ok-clause-runs : goal.run_inner-returns-in-Ok-clause-runs
run_inner-returns-in-Ok-clause-runs g t c =
    inner_ran c.args.machine.now c.args.inner c.args.component (state_of c.args.state.now) (state_of c.enter-outer.new.self) c.enter-outer.ensures.inner _ _ (state_of c.sequence.new.state) (state_of c.leave.new.self) (ap state_of (c.leave.ensures ∙ ap (λ (x : Progress). record x { params = c.sequence.new.state.params }) c.enter-outer.ensures.outer)) c.in-Ok.ensures.runs

pub run_inner-returns-in-None-clause-runs : goal.run_inner-returns-in-None-clause-runs
run_inner-returns-in-None-clause-runs g t c =
    inner_softly c.args.machine.now c.args.inner c.args.component (state_of c.args.state.now) (state_of c.enter-outer.new.self) c.enter-outer.ensures.inner _ _ (state_of c.sequence.new.state) (state_of c.enter-outer.result) (ap state_of c.enter-outer.ensures.outer) c.requires.under_way.sources c.in-Err.stop (sym c.passed_on.ensures ∙ c.in-None.is) c.in-Err.ensures.runs

pub try_each-loop-branch-init : goal.try_each-loop-branch-init
try_each-loop-branch-init g t c = record {
  few = omega arith;
  same = refl;
  ready = c.requires.ready;
  allowed = c.requires.allowed;
  begun = begun c.args.machine.now _ _ _ c.requires.under_way.sources c.requires.trailed;
  room = leaves_all _ _ _ refl;
  leaves = leaves_start _ _;
}

pub try_each-returns-in-Null-clause-runs : goal.try_each-returns-in-Null-clause-runs
try_each-returns-in-Null-clause-runs g t c =
    let lends : c.loop-branch.branches ≡ NullThen c.next.new.self = c.in-Some.ensures ∙ ap (λ (x : LentBranch). branch_before (branch_of x) c.next.new.self) c.in-Null.is in
    null_done c.args.machine.now c.loop-branch.branches c.args.place c.args.component _ c.args.state.now _ c.loop-branch.state _ c.loop-branch.invariant.begun (λ told. g.met.D.Disk.obeys c.loop-branch.work.disk.now told) c.loop-branch.invariant.same c.next.new.self lends

pub try_each-sequence-requires : goal.try_each-sequence-requires
try_each-sequence-requires g t c κs within =
    let inv = c.loop-branch.invariant in
    let lends : c.loop-branch.branches ≡ BranchThen c.in-Inner.inner c.next.new.self = c.in-Some.ensures ∙ ap (λ (x : LentBranch). branch_before (branch_of x) c.next.new.self) c.in-Inner.is in
    let smaller = branch_smaller c.loop-branch.branches c.next.new.self c.in-Inner.inner lends in
    let entered = c.enter-entry.ensures.inner in
    let allowed = subst (λ (x : State). AllowsSequence c.args.machine.now c.in-Inner.inner x.selection) (sym entered)
    (allows_branch c.args.machine.now c.in-Inner.inner c.next.new.self c.args.component (subst (λ (x : BranchesTree). AllowsBranches c.args.machine.now x c.args.component) lends inv.allowed)) in
    let sources = subst (λ (x : Progress). AreSources c.args.machine.now x.params) (sym inv.same) inv.begun.sources in
    let under_way = subst (IsUnderWay c.args.machine.now) (sym entered) (record { sources = sources; selection = (c.requires.inside, tt) }) in
    let room = room_next (branches_work c.args.branches c.args.machine.now.program.now.count) (branches_work c.loop-branch.branches c.args.machine.now.program.now.count) (work_of c.in-Inner.inner c.args.machine.now.program.now.count (length (selected_list c.enter-entry.new.self.selected))) (branches_work c.next.new.self c.args.machine.now.program.now.count) _ _ inv.room (branch_work c.loop-branch.branches c.next.new.self c.in-Inner.inner c.args.machine.now.program.now.count (length (selected_list c.enter-entry.new.self.selected)) lends (ap (λ (x : State). length x.selection) c.enter-entry.ensures.inner)) c.requires.room in
    (omega (arith, inv.few, smaller.0, c.decreases), (within.0, (within.1.0, (within.1.1.0, (within.1.1.1, (inv.ready, (allowed, (under_way, (inv.begun.trailed, room)))))))))

pub try_each-returns-in-Ok-clause-room : goal.try_each-returns-in-Ok-clause-room
try_each-returns-in-Ok-clause-room g t c =
    let lends : c.loop-branch.branches ≡ BranchThen c.in-Inner.inner c.next.new.self = c.in-Some.ensures ∙ ap (λ (x : LentBranch). branch_before (branch_of x) c.next.new.self) c.in-Inner.is in
    leaves_stopped (branches_work c.args.branches c.args.machine.now.program.now.count) (branches_work c.loop-branch.branches c.args.machine.now.program.now.count) (work_of c.in-Inner.inner c.args.machine.now.program.now.count (length (selected_list c.enter-entry.new.self.selected))) (branches_work c.next.new.self c.args.machine.now.program.now.count) _ _ c.loop-branch.invariant.room (branch_work c.loop-branch.branches c.next.new.self c.in-Inner.inner c.args.machine.now.program.now.count (length (selected_list c.enter-entry.new.self.selected)) lends (ap (λ (x : State). length x.selection) c.enter-entry.ensures.inner)) _ _ c.in-Ok.ensures.room

pub try_each-loop-branch-preserved : goal.try_each-loop-branch-preserved
try_each-loop-branch-preserved g t c =
    let inv = c.loop-branch.invariant in
    let lends : c.loop-branch.branches ≡ BranchThen c.in-Inner.inner c.next.new.self = c.in-Some.ensures ∙ ap (λ (x : LentBranch). branch_before (branch_of x) c.next.new.self) c.in-Inner.is in
    let smaller = branch_smaller c.loop-branch.branches c.next.new.self c.in-Inner.inner lends in
    record {
      few = omega (arith, inv.few, smaller.1);
      same = c.enter-entry.ensures.outer ∙ inv.same;
      ready = ready_after c.args.machine.now _ _ c.in-Err.ensures.runs.stays.outside inv.ready;
      allowed = allows_others c.args.machine.now c.in-Inner.inner c.next.new.self c.args.component (subst (λ (x : BranchesTree). AllowsBranches c.args.machine.now x c.args.component) lends inv.allowed);
      begun = try_next c.args.machine.now c.loop-branch.branches c.args.place c.args.component _ c.args.state.now _ c.loop-branch.state _ inv.begun (λ told. g.met.D.Disk.obeys c.loop-branch.work.disk.now told) inv.same c.in-Inner.inner c.next.new.self lends (state_of c.enter-entry.new.self) c.enter-entry.ensures.inner (state_of c.sequence.new.state) _ c.enter-entry.result c.enter-entry.ensures.outer c.in-Err.stop (sym c.passed_on.ensures ∙ c.in_default-passed_on.is) c.in-Err.ensures.runs;
      room = leaves_next (branches_work c.args.branches c.args.machine.now.program.now.count) (branches_work c.loop-branch.branches c.args.machine.now.program.now.count) (work_of c.in-Inner.inner c.args.machine.now.program.now.count (length (selected_list c.enter-entry.new.self.selected))) (branches_work c.next.new.self c.args.machine.now.program.now.count) _ _ inv.room (branch_work c.loop-branch.branches c.next.new.self c.in-Inner.inner c.args.machine.now.program.now.count (length (selected_list c.enter-entry.new.self.selected)) lends (ap (λ (x : State). length x.selection) c.enter-entry.ensures.inner)) _ tt
          (softly_spends (work_of c.in-Inner.inner c.args.machine.now.program.now.count (length (selected_list c.enter-entry.new.self.selected))) _ _ c.in-Err.stop c.enter-entry.result.soft_failure (sym c.passed_on.ensures ∙ c.in_default-passed_on.is) c.in-Err.ensures.room);
      leaves = leaves_then inv.leaves c.in-Err.ensures.leaves;
    }

pub try_each-returns-clause-runs : goal.try_each-returns-clause-runs
try_each-returns-clause-runs g t c =
    none_left c.args.machine.now c.loop-branch.branches c.args.place c.args.component _ c.args.state.now _ c.loop-branch.state _ c.loop-branch.invariant.begun (λ told. g.met.D.Disk.obeys c.loop-branch.work.disk.now told) c.loop-branch.invariant.same c.in_default.ensures.0

pub try_each-returns-in-Ok-clause-runs : goal.try_each-returns-in-Ok-clause-runs
try_each-returns-in-Ok-clause-runs g t c =
    let inv = c.loop-branch.invariant in
    let lends : c.loop-branch.branches ≡ BranchThen c.in-Inner.inner c.next.new.self = c.in-Some.ensures ∙ ap (λ (x : LentBranch). branch_before (branch_of x) c.next.new.self) c.in-Inner.is in
    try_done c.args.machine.now c.loop-branch.branches c.args.place c.args.component _ c.args.state.now _ c.loop-branch.state _ inv.begun (λ told. g.met.D.Disk.obeys c.loop-branch.work.disk.now told) inv.same c.in-Inner.inner c.next.new.self lends (state_of c.enter-entry.new.self) c.enter-entry.ensures.inner (state_of c.sequence.new.state) _ c.leave.new.self (c.leave.ensures ∙ ap (λ (x : Progress). record x { params = c.sequence.new.state.params }) c.enter-entry.ensures.outer) c.in-Ok.ensures.runs

pub try_each-returns-in-Ok-clause-leaves : goal.try_each-returns-in-Ok-clause-leaves
try_each-returns-in-Ok-clause-leaves g t c = leaves_then c.loop-branch.invariant.leaves c.in-Ok.ensures.leaves

pub try_each-returns-in-Some-passed_on-clause-runs : goal.try_each-returns-in-Some-passed_on-clause-runs
try_each-returns-in-Some-passed_on-clause-runs g t c =
    let inv = c.loop-branch.invariant in
    let lends : c.loop-branch.branches ≡ BranchThen c.in-Inner.inner c.next.new.self = c.in-Some.ensures ∙ ap (λ (x : LentBranch). branch_before (branch_of x) c.next.new.self) c.in-Inner.is in
    try_stopped c.args.machine.now c.loop-branch.branches c.args.place c.args.component _ c.args.state.now _ c.loop-branch.state _ inv.begun (λ told. g.met.D.Disk.obeys c.loop-branch.work.disk.now told) inv.same c.in-Inner.inner c.next.new.self lends (state_of c.enter-entry.new.self) c.enter-entry.ensures.inner (state_of c.sequence.new.state) _ c.enter-entry.result c.enter-entry.ensures.outer c.in-Err.stop c.in-Some-passed_on.stop (sym c.passed_on.ensures ∙ c.in-Some-passed_on.is) c.in-Err.ensures.runs

pub try_each-returns-in-Some-passed_on-clause-leaves : goal.try_each-returns-in-Some-passed_on-clause-leaves
try_each-returns-in-Some-passed_on-clause-leaves g t c = leaves_then c.loop-branch.invariant.leaves c.in-Err.ensures.leaves
