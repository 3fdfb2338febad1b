use Rattle.std.proofs.Common.{◌≡◌, ◌∙◌, ap, arith}
use Rattle.suit_commands.specs.WaysOnce.{counted, capped_ways}
use Rattle.suit_commands.specs.Smaller.{step_smaller, branch_inside}
use Rattle.suit_commands.proofs.WaysSteps.{made_fits, step_ways, steps_ways, branch_ways, branches_ways, there_ways, test_capped, inner_made, other_ways, steps_begin, branches_begin, some_ways, null_ways}
use Rattle.suit_commands.proofs.ways_walk.+ways.Goals as goal
use Rattle.suit_commands.proofs.ways_walk.+ways.Goals.{branches_ways-in-Some, branches_ways-in-None}

pub command_ways-returns-in-Test : goal.command_ways-returns-in-Test
command_ways-returns-in-Test t c = rw c.in-Test.is test_capped

pub command_ways-returns-in-Run : goal.command_ways-returns-in-Run
command_ways-returns-in-Run t c = rw c.in-Run.is (inner_made (counted c.sequence_ways-ways.result) _ _ c.sequence_ways-ways.ensures c.plus.ensures)

pub command_ways-returns-in_default : goal.command_ways-returns-in_default
command_ways-returns-in_default t c = other_ways c.args.command.now c.args.count _ c.start.ensures c.in_default.not-Test c.in_default.not-TryEach c.in_default.not-Run

pub branches_ways-loop-branch-init : goal.branches_ways-loop-branch-init
branches_ways-loop-branch-init t c = branches_begin _ _ c.args.count _ c.none_done-tried.ensures c.as_slice-branch-items.ensures

pub branches_ways-sequence_ways-ways-requires : goal.branches_ways-sequence_ways-ways-requires
branches_ways-sequence_ways-ways-requires t c = (omega (arith, branch_inside c.as_slice-branch-items.result.now c.loop-branch.branch-index c.branch-item.result c.branch-item.result c.in-Some.inner c.args.branches.now c.loop-branch-test.true c.branch-item.is c.in-Some.is c.loop-branch.invariant.whole, c.decreases), tt)

pub branches_ways-loop-branch-preserved : goal.branches_ways-loop-branch-preserved
branches_ways-loop-branch-preserved t c =
    let there : counted c.match-branch.ways ≡ capped_ways (there_ways c.branch-item.result c.args.count) = elim c.match-branch.branch [
      | branches_ways-in-Some w ↦ some_ways c.branch-item.result w.in-Some.inner c.args.count _ w.in-Some.is (ap counted w.ways-is ∙ w.sequence_ways-ways.ensures)
      | branches_ways-in-None w ↦ null_ways c.branch-item.result c.args.count _ w.in-None.is (ap counted w.ways-is ∙ w.start-ways.ensures)
    ] in
    record {
      whole = c.loop-branch.invariant.whole;
      fits = made_fits _ _ c.or_else-tried.ensures;
      ways = branch_ways c.as_slice-branch-items.result.now c.loop-branch.branch-index _ c.branch-item.result c.args.count _ _ _ _ c.loop-branch-test.true c.branch-item.is there c.or_else-tried.ensures c.loop-branch.invariant.ways;
    }

pub branches_ways-returns : goal.branches_ways-returns
branches_ways-returns t c = branches_ways c.as_slice-branch-items.result.now c.loop-branch.branch-index c.args.count _ _ c.loop-branch-test.false c.loop-branch.invariant.fits c.loop-branch.invariant.ways

pub sequence_ways-loop-step-init : goal.sequence_ways-loop-step-init
sequence_ways-loop-step-init t c = steps_begin _ _ c.args.count _ c.start-ways.ensures c.as_slice-step-items.ensures

pub sequence_ways-command_ways-once-requires : goal.sequence_ways-command_ways-once-requires
sequence_ways-command_ways-once-requires t c = (omega (arith, step_smaller c.as_slice-step-items.result.now c.loop-step.step-index c.step-item.result c.step-item.result c.args.sequence.now c.loop-step-test.true c.step-item.is c.loop-step.invariant.whole, c.decreases), tt)

pub sequence_ways-loop-step-preserved : goal.sequence_ways-loop-step-preserved
sequence_ways-loop-step-preserved t c = record {
  whole = c.loop-step.invariant.whole;
  fits = made_fits _ _ c.then-ways.ensures;
  ways = step_ways c.as_slice-step-items.result.now c.loop-step.step-index _ c.step-item.result c.args.count c.loop-step.selected c.count_after-selected.result _ _ _ _ _ c.loop-step-test.true c.step-item.is c.command_ways-once.ensures c.repeated.ensures c.then-ways.ensures c.count_after-selected.ensures c.loop-step.invariant.ways;
}

pub sequence_ways-returns : goal.sequence_ways-returns
sequence_ways-returns t c = steps_ways c.as_slice-step-items.result.now c.loop-step.step-index c.args.count c.loop-step.selected _ _ c.loop-step-test.false c.loop-step.invariant.fits c.loop-step.invariant.ways
