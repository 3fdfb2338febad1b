use Rattle.std.proofs.Common.{◌≡◌, ◌+◌, ◌-◌, ◌*◌, drop}
use Rattle.serde_json.specs.View.{items_view}
use Rattle.author.specs.Commands.{steps_from, branches_from}
use Rattle.author.proofs.Growing.{after_steps, after_branches}
use Rattle.author.proofs.commands.+commands.Given as goal

abbrev pub decreases-sequence : goal.decreases-sequence
decreases-sequence l = 7 * l.levels

abbrev pub invariant-sequence-loop-index : goal.invariant-sequence-loop-index
invariant-sequence-loop-index l =
    steps_from l.scope (l.levels - 1) 0 (items_view l.values) ≡ after_steps l.sequence (steps_from l.scope (l.levels - 1) l.index (items_view (drop l.index l.values)))

abbrev pub decreases-command : goal.decreases-command
decreases-command l = 7 * l.levels + 5

abbrev pub decreases-named : goal.decreases-named
decreases-named l = 7 * l.levels + 4

abbrev pub decreases-tries : goal.decreases-tries
decreases-tries l = 7 * l.levels + 3

abbrev pub invariant-tries-loop-index : goal.invariant-tries-loop-index
invariant-tries-loop-index l =
    branches_from l.scope l.levels 0 (items_view l.values) ≡ after_branches l.branches (branches_from l.scope l.levels l.index (items_view (drop l.index l.values)))

abbrev pub decreases-branch : goal.decreases-branch
decreases-branch l = 7 * l.levels + 1
