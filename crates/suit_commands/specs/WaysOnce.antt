-- The ways of parts: one after another, one in place of another, and one repeated.
use Rattle.std.specs.Prelude.{ℕ, zero, suc, ◌+◌, ◌*◌}
use Rattle.suit_commands.specs.declared.ways.Ways as kept
use Rattle.suit_commands.specs.Tree.{CommandTree, Test, Act, Index, Override, TryEach, RunSequence, BranchesTree}
use Rattle.suit_commands.specs.Capped.{capped}
use Rattle.suit_commands.specs.Numbers.{Ways, start_ways, ways_of, branches_done, branches_failed}

abbrev pub counted : kept.Ways → Ways
counted ways = record { on = ways.on; off = ways.off }

abbrev pub capped_ways : Ways → Ways
capped_ways ways = record { on = capped ways.on; off = capped ways.off }

-- a part followed by the next
abbrev pub ways_then : Ways → Ways → Ways
ways_then ways next = record { on = ways.on * next.on; off = ways.off + ways.on * next.off }

-- a part, with the next in its place if a condition ends it
abbrev pub ways_else : Ways → Ways → Ways
ways_else ways next = record { on = ways.on + ways.off * next.on; off = ways.off * next.off }

abbrev pub no_branch : Ways
no_branch = record { on = 0; off = 1 }

abbrev pub ways_repeated : ℕ → Ways → Ways
ways_repeated zero ways = start_ways
ways_repeated (suc n) ways = ways_then (ways_repeated n ways) ways

abbrev pub tried_ways : BranchesTree → ℕ → Ways
tried_ways branches count =
    record { on = branches_done branches count; off = branches_failed branches count }

-- an inner sequence; if a condition ends it, the next command may still follow
abbrev pub inner_ways : Ways → Ways
inner_ways ways = record { on = ways.on + ways.off; off = ways.off }

-- a command, for one of the selected components
abbrev pub once_ways : CommandTree → ℕ → Ways
once_ways (Test kind report) count = record { on = 1; off = 1 }
once_ways (Act kind report) count = start_ways
once_ways (Index selection) count = start_ways
once_ways (Override list) count = start_ways
once_ways (TryEach branches) count = tried_ways branches count
once_ways (RunSequence inner) count = inner_ways (ways_of inner count 1 start_ways)
