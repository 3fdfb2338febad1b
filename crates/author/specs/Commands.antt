-- Commands in a description: arrays of a name and an argument. All places in the tree are 0.
use Rattle.std.specs.Prelude.{ℕ, zero, suc, Bool, true, false, ◌&&◌, if◌then◌else◌, Option, Some, None, is_some, Result, Ok}
use Rattle.det_cbor.specs.HeadReading.{◌>>=◌}
use Rattle.serde_json.specs.Data.{Data, array, Items, no_items, item}
use Rattle.serde_json.specs.Find.{as_null}
use Rattle.json_fields.specs.declared.flaw.Flaw.{Flaw}
use Rattle.json_fields.specs.declared.flaw.FlawKind.TheVariants.{Field}
use Rattle.json_fields.specs.Flaws.{flawed, under}
use Rattle.json_fields.specs.Pointers.{index_token}
use Rattle.json_fields.specs.Values.{number_up_to}
use Rattle.suit_commands.specs.Tree.{CommandTree, Test, Act, Index, Override, TryEach, RunSequence, SequenceTree, NoSteps, StepThen, BranchesTree, NoBranches, BranchThen, NullThen}
use Rattle.author.specs.declared.command_name.CommandName.{CommandName}
use Rattle.author.specs.declared.command_name.CommandName.TheVariants as names
use Rattle.author.specs.Scope.{Scope}
use Rattle.author.specs.ParamValues.{params_of}
use Rattle.author.specs.Selections.{selection_of}
use Rattle.author.specs.CommandNames.{name_of}

abbrev pub argument : {A : Type 0} → Result A Flaw → Result A Flaw
argument read = under (index_token 1) read

-- the command of a name and an argument; the argument is also given as read as a sequence, and as the branches of a try
-- each
abbrev pub command_said : Scope → CommandName → Data → Result SequenceTree Flaw
    → Result BranchesTree Flaw → Result CommandTree Flaw
command_said scope (names.Test kind) d inner tries =
    argument (number_up_to 15 d) >>= λ report. Ok (Test kind report)
command_said scope (names.Act kind) d inner tries =
    argument (number_up_to 15 d) >>= λ report. Ok (Act kind report)
command_said scope names.Index d inner tries =
    argument (selection_of scope.count d) >>= λ selection. Ok (Index selection)
command_said scope names.Set d inner tries =
    argument (params_of scope d) >>= λ list. Ok (Override list)
command_said scope names.Try d inner tries = argument tries >>= λ branches. Ok (TryEach branches)
command_said scope names.Run d inner tries = argument inner >>= λ s. Ok (RunSequence s)

abbrev pub is_end : Items → Bool
is_end no_items = true
is_end (item d ds) = false

-- a branch of a try each, which may be the last; it is also given as read as a sequence
abbrev pub branch_said : Bool → Data → Result SequenceTree Flaw → Result (Option SequenceTree) Flaw
branch_said last d inner =
    if last && is_some (as_null d) then Ok None else (inner >>= λ s. Ok (Some s))

abbrev pub branch_then : Option SequenceTree → BranchesTree → BranchesTree
branch_then (Some s) bs = BranchThen s bs
branch_then None bs = NullThen bs

-- sequences are nested at most this many levels deep; a sequence is not empty, a try each has at least two branches,
-- and only the last one may be null
abbrev mutual
  pub sequence_of : Scope → ℕ → Data → Result SequenceTree Flaw
  sequence_of scope zero d = flawed Field
  sequence_of scope (suc levels) (array (item d ds)) = steps_from scope levels 0 (item d ds)
  sequence_of scope (suc levels) _ = flawed Field

  pub steps_from : Scope → ℕ → ℕ → Items → Result SequenceTree Flaw
  steps_from scope levels i no_items = Ok NoSteps
  steps_from scope levels i (item d ds) =
      under (index_token i) (command_of scope levels d) >>= λ c. steps_from scope levels (suc i) ds
      >>= λ s. Ok (StepThen 0 c s)

  pub command_of : Scope → ℕ → Data → Result CommandTree Flaw
  command_of scope levels (array (item name (item d no_items))) =
      under (index_token 0) (name_of scope.shared name)
      >>= λ n. command_said scope n d (sequence_of scope levels d) (tries_of scope levels d)
  command_of scope levels _ = flawed Field

  pub tries_of : Scope → ℕ → Data → Result BranchesTree Flaw
  tries_of scope levels (array (item a (item b ds))) =
      branches_from scope levels 0 (item a (item b ds))
  tries_of scope levels _ = flawed Field

  pub branches_from : Scope → ℕ → ℕ → Items → Result BranchesTree Flaw
  branches_from scope levels i no_items = Ok NoBranches
  branches_from scope levels i (item d ds) =
      under (index_token i) (branch_said (is_end ds) d (sequence_of scope levels d))
      >>= λ b. branches_from scope levels (suc i) ds >>= λ bs. Ok (branch_then b bs)

-- a branch of a try each; if it is null, it has to be the last
abbrev pub branch_of : Scope → ℕ → Bool → Data → Result (Option SequenceTree) Flaw
branch_of scope levels last d = branch_said last d (sequence_of scope levels d)

-- the command of a name and an argument
abbrev pub command_named : Scope → ℕ → CommandName → Data → Result CommandTree Flaw
command_named scope levels name d =
    command_said scope name d (sequence_of scope levels d) (tries_of scope levels d)
