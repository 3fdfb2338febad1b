-- The number of bytes that spell commands and branches.
use Rattle.std.specs.Prelude.{◌<◌, ◌^◌, ℕ, length}
use Rattle.det_cbor.specs.DataItem.{spell, spell_items}
use Rattle.suit_commands.specs.SequenceMaking.{step_items, argument_item, branch_items}
use Rattle.suit_commands.specs.Tree.{CommandTree, SequenceTree, BranchesTree}

-- the argument is spelled in fewer than 2^32 bytes
abbrev pub IsShortCommand : CommandTree → Type 0
IsShortCommand command = length (spell (argument_item command)) < 2 ^ 32

-- the codes and arguments are spelled in fewer than 2^32 bytes
abbrev pub AreShortSteps : SequenceTree → Type 0
AreShortSteps s = length (spell_items (step_items s)) < 2 ^ 32

-- the branches are spelled in fewer than 2^32 bytes
abbrev pub AreShortBranches : BranchesTree → Type 0
AreShortBranches branches = length (spell_items (branch_items branches)) < 2 ^ 32
