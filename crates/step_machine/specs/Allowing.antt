-- What the parts of a procedure may do: they write only its targets, name only its sources, set only its URIs, and swap
-- or fetch only if it does.
use Rattle.std.specs.Prelude.{ℕ, List}
use Rattle.suit_commands.specs.Tree.{CommandTree, SequenceTree, BranchesTree}
use Rattle.suit_commands.specs.Indexed.{AreIndexed, IsIndexed, BranchesIndexed}
use Rattle.step_machine.specs.Programs.{program_tree}
use Rattle.suit_commands.specs.Targets.{InSome, IsTarget, Writes, CommandWrites, BranchesWrite, Swaps, CommandSwaps, BranchesSwap, Sources, CommandSources, BranchesSource}
use Rattle.suit_commands.specs.Touches.{HasAct, CommandHasAct, BranchesHaveAct}
use Rattle.suit_commands.specs.declared.kinds.ActKind.TheVariants as acts
use Rattle.step_machine.specs.declared.machine.Machine.{Machine}
use Rattle.step_machine.specs.UrisSet.{BranchesSet, CommandSets, HasFetch, Sets, SetsUri}

-- some sequence of the procedure has a swap
abbrev pub MaySwap : Machine → Type 0
MaySwap machine = InSome (program_tree machine.program.now) Swaps

-- some sequence of the procedure has a fetch
abbrev pub MayFetch : Machine → Type 0
MayFetch machine = HasFetch (program_tree machine.program.now)

-- some sequence of the procedure names this source
abbrev pub MayName : Machine → ℕ → Type 0
MayName machine source = InSome (program_tree machine.program.now) (λ s. Sources s source)

-- some sequence of the procedure sets this URI
abbrev pub MaySet : Machine → List ℕ → Type 0
MaySet machine uri = SetsUri (program_tree machine.program.now) uri

-- the procedure may write this component
abbrev pub MayWrite : Machine → ℕ → Type 0
MayWrite machine component = IsTarget (program_tree machine.program.now) component

-- a part that does this does nothing that the procedure may not
pub record Allows (machine : Machine) (IsRight : Type 0) (WritesTo : ℕ → Type 0) (HasSwap : Type 0)
    (Fetches : Type 0) (HasSource : ℕ → Type 0) (HasUri : List ℕ → Type 0) : Type 0 where
  pub indexed : IsRight
  pub writes : (component : ℕ) → WritesTo component → MayWrite machine component
  pub swaps : HasSwap → MaySwap machine
  pub fetches : Fetches → MayFetch machine
  pub sources : (source : ℕ) → HasSource source → MayName machine source
  pub uris : (uri : List ℕ) → HasUri uri → MaySet machine uri

-- a sequence that is run with this selection
abbrev pub AllowsSequence : Machine → SequenceTree → List ℕ → Type 0
AllowsSequence machine sequence selection =
    Allows machine (AreIndexed machine.program.now.count sequence)
    (Writes sequence machine.program.now.count selection) (Swaps sequence)
    (HasAct acts.Fetch sequence) (Sources sequence) (Sets sequence)

-- a command that is done with this selection
abbrev pub AllowsCommand : Machine → CommandTree → List ℕ → Type 0
AllowsCommand machine command selection =
    Allows machine (IsIndexed machine.program.now.count command)
    (CommandWrites command machine.program.now.count selection) (CommandSwaps command)
    (CommandHasAct acts.Fetch command) (CommandSources command) (CommandSets command)

-- the branches of a try each, at one of the selected components
abbrev pub AllowsBranches : Machine → BranchesTree → ℕ → Type 0
AllowsBranches machine branches outer =
    Allows machine (BranchesIndexed machine.program.now.count branches)
    (BranchesWrite branches machine.program.now.count outer) (BranchesSwap branches)
    (BranchesHaveAct acts.Fetch branches) (BranchesSource branches) (BranchesSet branches)
