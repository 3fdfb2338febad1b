-- Programs: procedures in the bytes of a manifest.
use Rattle.std.specs.Prelude.{Option, Some, None}
use Rattle.suit_commands.specs.Tree.{SequenceTree, NoSteps, PlanTree}
use Rattle.step_machine.specs.declared.program.Program.{Program}

-- ---- procedures lent by bytes that were judged: each sequence is the one that its bytes spell

-- an absent sequence counts as an empty one
abbrev pub part_tree : Option SequenceTree → SequenceTree
part_tree None = NoSteps
part_tree (Some steps) = steps

-- the procedure that a program lends
abbrev pub program_tree : Program → PlanTree
program_tree program = record {
  shared = part_tree program.shared;
  first = part_tree program.first;
  second = part_tree program.second;
  third = part_tree program.third;
  count = program.count;
}
