-- What a borrowed part reads in its bytes: a tree, a list of indices, or a list of parameters.
use Rattle.std.specs.Prelude.{ℕ, List, [], IsOk, Result, Ok, Err}
use Rattle.det_cbor.specs.Position.{Position}
use Rattle.suit_params.specs.declared.param.Param.{Param}
use Rattle.suit_params.specs.declared.refusal.Refusal.{Refusal}
use Rattle.suit_params.specs.ParamReading.{params_from}
use Rattle.suit_commands.specs.declared.rules.Rules.{Rules}
use Rattle.suit_commands.specs.Judged.{inner_by}
use Rattle.suit_commands.specs.SequenceReading.{indices_from, branches_from, steps_from}
use Rattle.suit_commands.specs.Tree.{SequenceTree, NoSteps, BranchesTree, NoBranches}

-- what was read, or `other` if reading was refused
abbrev pub read_or : {A : Type 0} → A → Result A Refusal → A
read_or other (Ok read) = read
read_or other (Err e) = other

-- the value that was read, or `other` if reading was refused
abbrev pub first_or : {A : Type 0} → A → Result (A × Position) Refusal → A
first_or other (Ok read) = read.0
first_or other (Err e) = other

-- ---- the n steps from a position on

abbrev pub lent_steps : Rules → ℕ → Position → SequenceTree
lent_steps rules n p = read_or NoSteps (steps_from (inner_by rules) rules.shared rules.count n p)

-- n steps can be read there
abbrev pub AreSteps : Rules → ℕ → Position → Type 0
AreSteps rules n p = IsOk (steps_from (inner_by rules) rules.shared rules.count n p)

-- ---- the n branches from a position on

abbrev pub lent_branches : Rules → ℕ → Position → BranchesTree
lent_branches rules n p = first_or NoBranches (branches_from (inner_by rules) n p)

-- n branches can be read there
abbrev pub AreBranches : Rules → ℕ → Position → Type 0
AreBranches rules n p = IsOk (branches_from (inner_by rules) n p)

-- ---- the n indices from a position on, of the list whose place is `list`

abbrev pub lent_indices : ℕ → ℕ → ℕ → Position → List ℕ
lent_indices count list n p = first_or [] (indices_from count list n p)

-- n indices can be read there
abbrev pub AreIndices : ℕ → ℕ → ℕ → Position → Type 0
AreIndices count list n p = IsOk (indices_from count list n p)

-- ---- the n parameters from a position on

abbrev pub lent_params : ℕ → ℕ → Position → List Param
lent_params count n p = read_or [] (params_from count n p)

-- n parameters can be read there
abbrev pub AreParams : ℕ → ℕ → Position → Type 0
AreParams count n p = IsOk (params_from count n p)
