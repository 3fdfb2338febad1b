use Rattle.std.proofs.Common.{◌≡◌, ◌+◌, ◌≤◌, Vec, Global, sym, ◌∙◌, ap, arith}
use Rattle.serde_json.specs.Data.{array}
use Rattle.serde_json.specs.declared.value.Value.{Value}
use Rattle.suit_commands.specs.Size.{sequence_size, branches_size}
use Rattle.suit_commands.specs.View.{branches_tree}
use Rattle.suit_commands.specs.declared.command.Branches.TheDeep.{deep-Step}
use Rattle.suit_commands.specs.Smaller.{step_smaller, branch_smaller}
use Rattle.describe.specs.CommandData.{step_data, branch_data, branch_said}
use Rattle.describe.proofs.Joining.{step_pushed, steps_pushed, branch_pushed, branches_pushed}
use Rattle.describe.proofs.commands.+describing.Goals.{branches-in-Some+in_ok-sequence-in-Some+in_ok-push-in-Some, branches-in-None+in_ok-push-in-None}
use Rattle.describe.proofs.commands.+describing.Goals as goal

pub sequence-command-requires : goal.sequence-command-requires
sequence-command-requires t c =
    let e : deep-Step c.step-item.result ≤ sequence_size c.args.sequence.now = step_smaller c.as_slice-step-items.result.now c.loop-step.step-index c.step-item.result c.step-item.result c.args.sequence.now c.loop-step-test.true c.step-item.is c.loop-step.invariant.whole in
    (omega (arith, e, c.decreases), tt)

pub sequence-loop-step-preserved : goal.sequence-loop-step-preserved
sequence-loop-step-preserved t c = record {
  whole = c.loop-step.invariant.whole;
  said = step_pushed c.as_slice-step-items.result.now c.loop-step.step-index c.step-item.result c.loop-step.values.items c.push.new.self.items c.in_ok-command.field-0 (step_data c.args.sequence.now)
      c.loop-step-test.true c.step-item.is c.in_ok-push.ensures.items c.in_ok-command.ensures c.loop-step.invariant.said;
}

pub sequence-returns : goal.sequence-returns
sequence-returns t c =
    c.from.ensures ∙ ap array (steps_pushed c.as_slice-step-items.result.now c.loop-step.step-index c.loop-step.values.items (step_data c.args.sequence.now) c.loop-step-test.false c.loop-step.invariant.said)

pub branches-sequence-requires : goal.branches-sequence-requires
branches-sequence-requires t c =
    let e : sequence_size c.in-Some.inner + 1 ≤ branches_size (branches_tree c.as_slice-branch-items.result.now) = branch_smaller c.as_slice-branch-items.result.now c.loop-branch.branch-index c.branch-item.result c.in-Some.inner c.loop-branch-test.true (sym c.branch-item.is ∙ c.in-Some.is) in
    let f : branches_size (branches_tree c.as_slice-branch-items.result.now) ≡ branches_size c.args.branches.now = ap branches_size c.loop-branch.invariant.whole in
    (omega (arith, e, f, c.decreases), tt)

pub branches-loop-branch-preserved : goal.branches-loop-branch-preserved
branches-loop-branch-preserved t c =
    let next = branch_pushed c.as_slice-branch-items.result.now c.loop-branch.branch-index c.branch-item.result c.loop-branch.values.items c.match-branch.values.items in
    let whole = branch_data c.args.branches.now in
    record {
      whole = c.loop-branch.invariant.whole;
      said = elim c.match-branch.branch [
        | branches-in-Some+in_ok-sequence-in-Some+in_ok-push-in-Some w ↦
            next w.in_ok-sequence-in-Some.field-0 whole c.loop-branch-test.true c.branch-item.is (ap (λ (v : Vec Value Global). v.items) w.values-is ∙ w.in_ok-push-in-Some.ensures.items)
            (w.in_ok-sequence-in-Some.ensures ∙ sym (ap branch_said w.in-Some.is)) c.loop-branch.invariant.said
        | branches-in-None+in_ok-push-in-None w ↦
            next w.from.result whole c.loop-branch-test.true c.branch-item.is (ap (λ (v : Vec Value Global). v.items) w.values-is ∙ w.in_ok-push-in-None.ensures.items)
            (w.from.ensures ∙ sym (ap branch_said w.in-None.is)) c.loop-branch.invariant.said
      ];
    }

pub branches-returns : goal.branches-returns
branches-returns t c =
    c.from-2.ensures ∙ ap array (branches_pushed c.as_slice-branch-items.result.now c.loop-branch.branch-index c.loop-branch.values.items (branch_data c.args.branches.now) c.loop-branch-test.false c.loop-branch.invariant.said)
