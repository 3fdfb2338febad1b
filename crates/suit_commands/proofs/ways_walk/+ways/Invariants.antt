use Rattle.std.proofs.Common.{◌≡◌, drop}
use Rattle.suit_commands.specs.Numbers.{ways_of, start_ways}
use Rattle.suit_commands.specs.WaysOnce.{counted, ways_then, ways_else, tried_ways}
use Rattle.suit_commands.specs.View.{sequence_tree, branches_tree}
use Rattle.suit_commands.proofs.WaysSteps.{IsWalked}
use Rattle.suit_commands.proofs.ways_walk.+ways.Given as goal

-- the part counted and the rest are the whole

abbrev pub invariant-branches_ways-loop-branch : goal.invariant-branches_ways-loop-branch
invariant-branches_ways-loop-branch l =
    IsWalked (branches_tree l.branch-items ≡ l.branches) (counted l.tried)
    (ways_else (counted l.tried) (tried_ways (branches_tree (drop l.branch-index l.branch-items)) l.count)) (tried_ways l.branches l.count)

abbrev pub invariant-sequence_ways-loop-step : goal.invariant-sequence_ways-loop-step
invariant-sequence_ways-loop-step l =
    IsWalked (sequence_tree l.step-items ≡ l.sequence) (counted l.ways)
    (ways_then (counted l.ways) (ways_of (sequence_tree (drop l.step-index l.step-items)) l.count l.selected start_ways)) (ways_of l.sequence l.count 1 start_ways)
