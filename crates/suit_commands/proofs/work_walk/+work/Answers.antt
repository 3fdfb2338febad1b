use Rattle.std.proofs.Common.{◌≡◌, ◌<◌, ◌^◌, ℕ, sym, ◌∙◌, subst, arith}
use Rattle.suit_commands.specs.View.{command_tree}
use Rattle.suit_commands.specs.Capped.{capped}
use Rattle.suit_commands.specs.Numbers.{command_work}
use Rattle.suit_commands.specs.declared.command.Command.{Command}
use Rattle.suit_commands.proofs.Capping.{capped_small}
use Rattle.suit_commands.specs.Smaller.{step_smaller, branch_inside}
use Rattle.suit_commands.proofs.WorkSteps.{inner_work, step_counted, branch_counted, null_counted, plain_work, steps_counted, branches_counted}
use Rattle.suit_commands.proofs.work_walk.+work.Goals as goal
use Rattle.suit_commands.proofs.work_walk.+work.Goals.{branches_work-in-Some, branches_work-in-None}

pub command_work-returns-in-Index : goal.command_work-returns-in-Index
command_work-returns-in-Index t c = subst (λ (x : Command). 1 ≡ capped (command_work (command_tree x) c.args.count c.args.selected)) (sym c.in-Index.is) (sym (capped_small 1 (omega arith)))

pub command_work-returns-in-TryEach : goal.command_work-returns-in-TryEach
command_work-returns-in-TryEach t c = subst (λ (x : Command). c.product.result ≡ capped (command_work (command_tree x) c.args.count c.args.selected)) (sym c.in-TryEach.is)
    (c.product.ensures ∙ inner_work c.args.selected _ _ _ c.branches_work.ensures c.plus.ensures)

pub command_work-returns-in-Run : goal.command_work-returns-in-Run
command_work-returns-in-Run t c = subst (λ (x : Command). c.product-in-Run.result ≡ capped (command_work (command_tree x) c.args.count c.args.selected)) (sym c.in-Run.is)
    (c.product-in-Run.ensures ∙ inner_work c.args.selected _ _ _ c.sequence_work.ensures c.plus-in-Run.ensures)

pub command_work-returns-in_default : goal.command_work-returns-in_default
command_work-returns-in_default t c = plain_work c.args.command.now c.args.count c.args.selected (omega arith) c.in_default.not-Index c.in_default.not-TryEach c.in_default.not-Run

pub branches_work-sequence_work-requires : goal.branches_work-sequence_work-requires
branches_work-sequence_work-requires t c = (omega (arith, branch_inside c.as_slice-branch-items.result.now c.loop-branch.branch-index c.branch-item.result c.branch-item.result c.in-Some.inner c.args.branches.now c.loop-branch-test.true c.branch-item.is c.in-Some.is c.loop-branch.invariant.whole, c.decreases), tt)

pub branches_work-loop-branch-preserved : goal.branches_work-loop-branch-preserved
branches_work-loop-branch-preserved t c = record {
  whole = c.loop-branch.invariant.whole;
  fits = elim c.match-branch.branch [
    | branches_work-in-Some w ↦ subst (λ (x : ℕ). x < 2 ^ 64) (sym w.total-is) w.plus-total.type_inv
    | branches_work-in-None w ↦ subst (λ (x : ℕ). x < 2 ^ 64) (sym w.total-is) c.loop-branch.invariant.fits
  ];
  sum = elim c.match-branch.branch [
    | branches_work-in-Some w ↦ branch_counted c.as_slice-branch-items.result.now c.loop-branch.branch-index _ c.branch-item.result w.in-Some.inner c.args.count c.loop-branch.total w.sequence_work.result _ _ c.loop-branch-test.true c.branch-item.is w.in-Some.is w.sequence_work.ensures (w.total-is ∙ w.plus-total.ensures) c.loop-branch.invariant.sum
    | branches_work-in-None w ↦ null_counted c.as_slice-branch-items.result.now c.loop-branch.branch-index _ c.branch-item.result c.args.count c.loop-branch.total _ _ c.loop-branch-test.true c.branch-item.is w.in-None.is w.total-is c.loop-branch.invariant.sum
  ];
}

pub branches_work-returns : goal.branches_work-returns
branches_work-returns t c = branches_counted c.as_slice-branch-items.result.now c.loop-branch.branch-index c.args.count c.loop-branch.total _ c.loop-branch-test.false c.loop-branch.invariant.fits c.loop-branch.invariant.sum

pub sequence_work-command_work-requires : goal.sequence_work-command_work-requires
sequence_work-command_work-requires t c = (omega (arith, step_smaller c.as_slice-step-items.result.now c.loop-step.step-index c.step-item.result c.step-item.result c.args.sequence.now c.loop-step-test.true c.step-item.is c.loop-step.invariant.whole, c.decreases), tt)

pub sequence_work-loop-step-preserved : goal.sequence_work-loop-step-preserved
sequence_work-loop-step-preserved t c = record {
  whole = c.loop-step.invariant.whole;
  fits = c.plus-total.type_inv;
  sum = step_counted c.as_slice-step-items.result.now c.loop-step.step-index _ c.step-item.result c.args.count c.loop-step.selected c.count_after-selected.result c.loop-step.total c.command_work.result c.plus-total.result _ c.loop-step-test.true c.step-item.is c.command_work.ensures c.plus-total.ensures c.count_after-selected.ensures c.loop-step.invariant.sum;
}

pub sequence_work-returns : goal.sequence_work-returns
sequence_work-returns t c = steps_counted c.as_slice-step-items.result.now c.loop-step.step-index c.args.count c.loop-step.selected c.loop-step.total _ c.loop-step-test.false c.loop-step.invariant.fits c.loop-step.invariant.sum
