use Rattle.std.proofs.Common.{◌≡◌, ◌-◌}
use Rattle.suit_cursor.specs.Walking.{branch_at}
use Rattle.suit_cursor.proofs.branches.LentBranches.branch.Given as goal

-- the branch that is looked for is as far ahead as there are branches to skip
abbrev pub invariant-loop : goal.invariant-loop
invariant-loop l = branch_at l.self (l.number - l.counter) ≡ branch_at l.fn.self l.number
