-- An inner sequence is smaller than the one that holds it.
use Rattle.std.specs.Prelude.{ℕ, ◌+◌, ◌≤◌, max, List, [], ◌∷◌, Option, Some, None}
use Rattle.std.proofs.Common.{arith}
use denote.Param.Weighed.{most}
use Rattle.suit_commands.specs.Tree.{SequenceTree}
use Rattle.suit_commands.specs.View.{sequence_tree, branches_tree, command_tree}
use Rattle.suit_commands.specs.Size.{sequence_size, command_size, branches_size}
use Rattle.suit_commands.specs.declared.command.Step.{Step}
use Rattle.suit_commands.specs.declared.command.Command.{Command}
use Rattle.suit_commands.specs.declared.command.Command.TheVariants.{TryEach}
use Rattle.suit_commands.specs.declared.command.Branches.TheDeep.{deep-Command, deep-Step}
use Rattle.suit_commands.specs.declared.command.Branches.TheShapes.{weighed-Branches-held-at-1}

command_falls : (c : Command) → deep-Command c ≤ command_size (command_tree c)
command_falls (TryEach tries) = omega arith
command_falls _ = omega arith

pub sequence_falls : (ss : List Step) → max (most deep-Step ss) 0 ≤ sequence_size (sequence_tree ss)
sequence_falls [] = omega arith
sequence_falls (s ∷ ss) = omega (arith, command_falls s.command, sequence_falls ss)

abbrev deep_branch : Option SequenceTree → ℕ
deep_branch o = weighed-Branches-held-at-1.weight SequenceTree (λ y. sequence_size y + 1) o

deep_branch_some : (s : SequenceTree) → deep_branch (Some s) ≤ sequence_size s + 1
deep_branch_some s = omega arith

pub branches_fall : (bs : List (Option SequenceTree))
    → max (most deep_branch bs) 0 ≤ branches_size (branches_tree bs)
branches_fall [] = omega arith
branches_fall (None ∷ bs) = omega (arith, branches_fall bs)
branches_fall (Some s ∷ bs) = omega (arith, branches_fall bs, deep_branch_some s)
