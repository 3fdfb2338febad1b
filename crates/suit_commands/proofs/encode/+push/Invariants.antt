use Rattle.std.proofs.Common.{◌≡◌, ◌++◌, drop}
use Rattle.det_cbor.specs.DataItem.{ArrayOf, spell, spell_items}
use Rattle.suit_commands.specs.SequenceMaking.{step_items, branch_items}
use Rattle.suit_commands.specs.SequenceWriting.{StepsFit, CommandFits, BranchesFit}
use Rattle.suit_commands.specs.Tree.{TryEach}
use Rattle.suit_commands.specs.View.{sequence_tree, branches_tree}
use Rattle.suit_commands.proofs.encode.+push.Given as goal

-- the bytes written so far and the spelling of the rest are the whole spelling, and the rest decides
abbrev pub invariant-push_steps-loop-step : goal.invariant-push_steps-loop-step
invariant-push_steps-loop-step l =
    (l.out ++ spell_items (step_items (sequence_tree (drop l.step-index l.step-items))) ≡ l.fn.out ++ spell_items (step_items (sequence_tree l.step-items)))
    × (StepsFit (sequence_tree (drop l.step-index l.step-items)) → StepsFit (sequence_tree l.step-items))

abbrev pub invariant-push_tries-loop-branch : goal.invariant-push_tries-loop-branch
invariant-push_tries-loop-branch l =
    (l.out ++ spell_items (branch_items (branches_tree (drop l.branch-index l.branch-items))) ≡ l.fn.out ++ spell (ArrayOf (branch_items (branches_tree l.branch-items))))
    × (BranchesFit (branches_tree (drop l.branch-index l.branch-items)) → CommandFits (TryEach (branches_tree l.branch-items)))
