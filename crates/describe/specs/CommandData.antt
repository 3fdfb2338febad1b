-- Commands in a description: arrays of a name and an argument. Places are not written.
use Rattle.std.specs.Prelude.{ℕ, true, List, codes, Option, Some, None, option_map}
use Rattle.serde_json.specs.Data.{Data, null, boolean, string, array, Items, no_items, item}
use Rattle.suit_commands.specs.declared.kinds.TestKind.TheVariants as tests
use Rattle.suit_commands.specs.declared.kinds.ActKind.TheVariants as acts
use Rattle.suit_commands.specs.declared.selection.Selection.{Selection}
use Rattle.suit_commands.specs.declared.selection.Selection.TheVariants.{One, All, Listed}
use Rattle.suit_commands.specs.Tree.{CommandTree, Test, Act, Index, Override, TryEach, RunSequence, SequenceTree, NoSteps, StepThen, BranchesTree, NoBranches, BranchThen, NullThen}
use Rattle.describe.specs.ValueData.{number_data, array_data}
use Rattle.describe.specs.ParamData.{params_data}

abbrev pub command_name : CommandTree → List ℕ
command_name (Test tests.Vendor report) = codes "vendor"
command_name (Test tests.Class report) = codes "class"
command_name (Test tests.Device report) = codes "device"
command_name (Test tests.Slot report) = codes "slot"
command_name (Test tests.ImageMatch report) = codes "match"
command_name (Test tests.CheckContent report) = codes "content"
command_name (Test tests.Abort report) = codes "abort"
command_name (Act acts.Write report) = codes "write"
command_name (Act acts.Fetch report) = codes "fetch"
command_name (Act acts.Copy report) = codes "copy"
command_name (Act acts.Invoke report) = codes "invoke"
command_name (Act acts.Swap report) = codes "swap"
command_name (Index selection) = codes "index"
command_name (Override list) = codes "set"
command_name (TryEach tries) = codes "try"
command_name (RunSequence inner) = codes "run"

-- the index of a component, `true` for all of them, or an array of indices
abbrev pub selection_data : Selection → Data
selection_data (One i) = number_data i
selection_data All = boolean true
selection_data (Listed is) = array_data number_data is

-- an array of a name and an argument
abbrev pub named : List ℕ → Data → Data
named name argument = array (item (string name) (item argument no_items))

abbrev mutual
  pub step_data : SequenceTree → Items
  step_data NoSteps = no_items
  step_data (StepThen place command rest) = item (command_data command) (step_data rest)

  pub command_data : CommandTree → Data
  command_data (Test kind report) =
      named (command_name (Test kind report)) (number_data report)
  command_data (Act kind report) = named (command_name (Act kind report)) (number_data report)
  command_data (Index selection) =
      named (command_name (Index selection)) (selection_data selection)
  command_data (Override list) = named (command_name (Override list)) (params_data list)
  command_data (TryEach tries) = named (command_name (TryEach tries)) (array (branch_data tries))
  command_data (RunSequence inner) =
      named (command_name (RunSequence inner)) (array (step_data inner))

  pub branch_data : BranchesTree → Items
  branch_data NoBranches = no_items
  branch_data (BranchThen inner rest) = item (array (step_data inner)) (branch_data rest)
  branch_data (NullThen rest) = item null (branch_data rest)

abbrev pub sequence_data : SequenceTree → Data
sequence_data s = array (step_data s)

abbrev pub branch_said : Option SequenceTree → Data
branch_said (Some s) = sequence_data s
branch_said None = null

-- a sequence that may be absent
abbrev pub sequence_if : Option SequenceTree → Option Data
sequence_if s = option_map sequence_data s
