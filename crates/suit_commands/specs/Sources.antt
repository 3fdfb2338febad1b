-- The bits, with those of the sources that a sequence names set too.
use Rattle.std.specs.Prelude.{ℕ, ◌^◌, List, [], ◌∷◌, bit_or}
use Rattle.suit_params.specs.declared.param.Param.{Param}
use Rattle.suit_params.specs.declared.param.Param.TheVariants as params
use Rattle.suit_commands.specs.Tree.{CommandTree, Test, Act, Index, Override, TryEach, RunSequence, SequenceTree, NoSteps, StepThen, BranchesTree, NoBranches, BranchThen, NullThen}

abbrev pub list_sources : List Param → ℕ → ℕ
list_sources [] bits = bits
list_sources (params.Source source ∷ list) bits = list_sources list (bit_or bits (2 ^ source))
list_sources (_ ∷ list) bits = list_sources list bits

abbrev mutual
  pub sources_of : SequenceTree → ℕ → ℕ
  sources_of NoSteps bits = bits
  sources_of (StepThen place command rest) bits =
      sources_of rest (bit_or bits (command_sources command))

  pub command_sources : CommandTree → ℕ
  command_sources (Test kind report) = 0
  command_sources (Act kind report) = 0
  command_sources (Index selection) = 0
  command_sources (Override list) = list_sources list 0
  command_sources (TryEach branches) = branches_sources branches 0
  command_sources (RunSequence inner) = sources_of inner 0

  pub branches_sources : BranchesTree → ℕ → ℕ
  branches_sources NoBranches bits = bits
  branches_sources (BranchThen inner rest) bits =
      branches_sources rest (bit_or bits (sources_of inner 0))
  branches_sources (NullThen rest) bits = branches_sources rest bits
