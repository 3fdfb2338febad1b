use Rattle.std.proofs.Common.{◌≡◌, ◌*◌, length, refl, ap, arith}
use Rattle.det_cbor.specs.DataItem.{item_count}
use Rattle.suit_commands.specs.SequenceMaking.{step_items, branch_items}
use Rattle.suit_commands.specs.View.{branches_tree}
use Rattle.suit_commands.proofs.SequenceSpelled.{array_written, steps_counted, branches_counted}
use Rattle.suit_commands.proofs.encode.+push.Goals as goal

pub push_sequence-returns-clause-ok : goal.push_sequence-returns-clause-ok
push_sequence-returns-clause-ok t c =
    let counted = steps_counted c.as_slice.result.now c.args.sequence.now c.as_slice.ensures in
    array_written c.args.out.now c.push_count.new.out c.push_steps.new.out (2 * length c.as_slice.result.now) (step_items c.args.sequence.now) counted c.in_ok-push_count.ensures.ok c.in_ok-push_steps.ensures.ok

pub push_sequence-returns-clause-fits : goal.push_sequence-returns-clause-fits
push_sequence-returns-clause-fits t c =
    let counted = steps_counted c.as_slice.result.now c.args.sequence.now c.as_slice.ensures in
    (omega (arith, counted), c.in_ok-push_steps.ensures.fit)

pub push_tries-loop-branch-init : goal.push_tries-loop-branch-init
push_tries-loop-branch-init t c =
    let items = branch_items (branches_tree c.deref-branch-items.result.now) in
    let counted : c.len.result ≡ item_count items = omega (arith, c.len.ensures, ap length c.deref-branch-items.ensures.value, branches_counted c.deref-branch-items.result.now _ refl) in
    (array_written c.args.out.now c.push_count.new.out _ c.len.result items counted c.in_ok-push_count.ensures.ok refl, λ fit. (omega (arith, counted), fit))
