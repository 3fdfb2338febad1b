use Rattle.std.proofs.Common.{◌≡◌, ◌+◌, ◌-◌, ◌*◌, drop}
use Rattle.serde_json.specs.View.{items_view}
use Rattle.author.specs.Contents.{left_after, commands_length, branches_length}
use Rattle.author.proofs.contents.+contents.Given as goal

abbrev pub decreases-after_sequence : goal.decreases-after_sequence
decreases-after_sequence l = 3 * l.levels

abbrev pub invariant-after_sequence-loop-element : goal.invariant-after_sequence-loop-element
invariant-after_sequence-loop-element l =
    left_after l.initial.rest (commands_length l.files (l.levels - 1) (items_view l.element-items))
    ≡ left_after l.rest (commands_length l.files (l.levels - 1) (items_view (drop l.element-index l.element-items)))

abbrev pub decreases-after_command : goal.decreases-after_command
decreases-after_command l = 3 * l.levels + 2

abbrev pub decreases-after_branches : goal.decreases-after_branches
decreases-after_branches l = 3 * l.levels + 1

abbrev pub invariant-after_branches-loop-element : goal.invariant-after_branches-loop-element
invariant-after_branches-loop-element l =
    left_after l.initial.rest (branches_length l.files l.levels (items_view l.element-items))
    ≡ left_after l.rest (branches_length l.files l.levels (items_view (drop l.element-index l.element-items)))
