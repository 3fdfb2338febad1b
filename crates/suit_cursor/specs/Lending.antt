-- Borrowed parts as the trees that they read, and what is left after the next part was borrowed.
use Rattle.std.specs.Prelude.{◌≡◌, ℕ, List, [], ◌∷◌, map, Option, Some, None, option_map}
use Rattle.suit_params.specs.declared.param.Param.{Param}
use Rattle.suit_params.specs.declared.param_slice.ParamSlice.{ParamSlice}
use Rattle.suit_params.specs.ParamSlices.{param_of}
use Rattle.suit_commands.specs.declared.selection.Selection.{Selection}
use Rattle.suit_commands.specs.declared.selection.Selection.TheVariants as selections
use Rattle.suit_commands.specs.SequenceJudging.{branch_before}
use Rattle.suit_commands.specs.Tree.{CommandTree, Test, Act, Index, Override, TryEach, RunSequence, SequenceTree, NoSteps, StepThen, BranchesTree, NoBranches}
use Rattle.suit_cursor.specs.declared.branches.LentBranch.{LentBranch}
use Rattle.suit_cursor.specs.declared.branches.LentBranch.TheVariants as branches
use Rattle.suit_cursor.specs.declared.command.Lent.{Lent}
use Rattle.suit_cursor.specs.declared.command.LentCommand.{LentCommand}
use Rattle.suit_cursor.specs.declared.command.LentCommand.TheVariants as commands
use Rattle.suit_cursor.specs.declared.command.LentSelection.{LentSelection}
use Rattle.suit_cursor.specs.declared.command.LentSelection.TheVariants as lent

-- ---- commands

abbrev pub selection_of : LentSelection → Selection
selection_of (lent.One component) = selections.One component
selection_of lent.All = selections.All
selection_of (lent.Listed indices) = selections.Listed indices

abbrev pub command_of : LentCommand → CommandTree
command_of (commands.Test kind report) = Test kind report
command_of (commands.Act kind report) = Act kind report
command_of (commands.Index selection) = Index (selection_of selection)
command_of (commands.Override list) = Override list
command_of (commands.TryEach tries) = TryEach tries
command_of (commands.Run inner) = RunSequence inner

-- the step that is borrowed, and the steps that are left
abbrev pub LendsStep : SequenceTree → SequenceTree → Option Lent → Type 0
LendsStep before after None = (before ≡ NoSteps) × (after ≡ NoSteps)
LendsStep before after (Some step) = before ≡ StepThen step.place (command_of step.command) after

-- ---- branches

-- a null branch has no sequence
abbrev pub branch_of : LentBranch → Option SequenceTree
branch_of branches.Null = None
branch_of (branches.Inner inner) = Some inner

-- the branch that is borrowed, and the branches that are left
abbrev pub LendsBranch : BranchesTree → BranchesTree → Option LentBranch → Type 0
LendsBranch before after None = (before ≡ NoBranches) × (after ≡ NoBranches)
LendsBranch before after (Some branch) = before ≡ branch_before (branch_of branch) after

-- ---- lists

-- the index that is borrowed, and the indices that are left
abbrev pub LendsIndex : List ℕ → List ℕ → Option ℕ → Type 0
LendsIndex before after None = (before ≡ []) × (after ≡ [])
LendsIndex before after (Some index) = before ≡ index ∷ after

-- the parameter that is borrowed, and the parameters that are left
abbrev pub LendsParam : List Param → List Param → Option ParamSlice → Type 0
LendsParam before after None = (before ≡ []) × (after ≡ [])
LendsParam before after (Some param) = before ≡ param_of param ∷ after

-- ---- the parameters in force

abbrev pub params_in : List (Option ParamSlice) → List (Option Param)
params_in cells = map (option_map param_of) cells
