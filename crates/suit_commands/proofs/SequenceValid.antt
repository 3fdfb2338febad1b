-- The items of a written sequence are valid.
use Rattle.std.proofs.Common.{ℕ, zero, suc, ◌+◌, ◌<◌, ◌≤◌, ◌^◌, Bool, List, [], ◌∷◌, length, Option, Some, None, refl, arith}
use Rattle.std.specs.List.{AllByRecursion}
use Rattle.det_cbor.specs.DataItem.{spell, IsValid, IsValidWithin, AreValidWithin, ArePairsWithin, Spells}
use Rattle.suit_params.specs.declared.param.Param.{Param}
use Rattle.suit_params.specs.declared.param.Param.TheVariants as params
use Rattle.suit_params.specs.declared.param.ParamKey.{ParamKey}
use Rattle.suit_params.specs.declared.param.ParamKey.TheVariants as keys
use Rattle.suit_params.specs.ParamKeys.{key_of, key_number, key_item}
use Rattle.suit_params.specs.ParamMaking.{value_item, param_pairs, params_item, IsParam}
use Rattle.suit_params.specs.ParamLaws.{AreAbove, AreAscending}
use Rattle.suit_params.proofs.ParamWritten.{written_valid}
use Rattle.suit_commands.specs.declared.kinds.TestKind.{TestKind}
use Rattle.suit_commands.specs.declared.kinds.TestKind.TheVariants as tests
use Rattle.suit_commands.specs.declared.kinds.ActKind.{ActKind}
use Rattle.suit_commands.specs.declared.kinds.ActKind.TheVariants as acts
use Rattle.suit_commands.specs.declared.selection.Selection.TheVariants.{One, All, Listed}
use Rattle.suit_commands.specs.Tree.{CommandTree, Test, Act, Index, Override, TryEach, RunSequence, SequenceTree, NoSteps, StepThen, BranchesTree, NoBranches, BranchThen, NullThen}
use Rattle.suit_commands.specs.Kinds.{test_code, act_code}
use Rattle.suit_commands.specs.Allowed.{IsSequence, AreCommands, IsCommand}
use Rattle.suit_commands.specs.Sequences.{index_items}
use Rattle.suit_commands.specs.SequenceMaking.{code_of, step_items, argument_item, branch_items, sequence_item}
use Rattle.suit_commands.specs.SequenceWriting.{IsU64, StepsFit, CommandFits, BranchesFit, SequenceFits}
use Rattle.suit_commands.proofs.SequenceSpelled.{index_count}

-- ---- maps of parameters are valid one level further in, and short

key_low : (key : ParamKey) → key_number key ≤ 24
key_low keys.Vendor = omega arith
key_low _ = omega arith

few : (low : ℕ) (ps : List Param) → low ≤ 24 → AreAbove low ps → low + length ps ≤ 24
few low [] le above = omega arith
few low (p ∷ ps) le above = omega (arith, above.0, few (key_number (key_of p)) ps (key_low (key_of p)) above.1)

value_inside : (p : Param) → IsValidWithin 1 (value_item p) → IsValidWithin 2 (value_item p)
value_inside (params.Vendor id) v = v
value_inside _ v = v

pairs_inside : (before : Option (List ℕ)) (ps : List Param) → ArePairsWithin 1 before (param_pairs ps) → ArePairsWithin 2 before (param_pairs ps)
pairs_inside before [] v = tt
pairs_inside before (p ∷ ps) v = (v.0, v.1, value_inside p v.2, pairs_inside (Some (spell (key_item (key_of p)))) ps v.3)

override_valid : (ps : List Param) → AllByRecursion IsParam ps → AreAscending ps → IsValidWithin 1 (params_item ps)
override_valid ps fit ascend =
    let small : length ps < 2 ^ 64 = omega (arith, few 0 ps (omega arith) ascend) in
    let v : IsValid (params_item ps) = written_valid ps small fit ascend in
    (omega arith, v.1, pairs_inside None ps v.2)

-- ---- the items of a sequence are valid. Sequences inside are strings.

test_small : (kind : TestKind) → test_code kind < 2 ^ 64
test_small tests.Vendor = omega arith
test_small _ = omega arith

act_small : (kind : ActKind) → act_code kind < 2 ^ 64
act_small acts.Write = omega arith
act_small _ = omega arith

code_small : (c : CommandTree) → code_of c < 2 ^ 64
code_small (Test kind report) = test_small kind
code_small (Act kind report) = act_small kind
code_small _ = omega arith

indices_valid : (is : List ℕ) → AllByRecursion IsU64 is → AreValidWithin 2 (index_items is)
indices_valid [] fit = tt
indices_valid (i ∷ is) fit = (fit.0, indices_valid is fit.1)

branches_valid : (tries : BranchesTree) → BranchesFit tries → AreValidWithin 2 (branch_items tries)
branches_valid NoBranches fit = tt
branches_valid (BranchThen inner rest) fit = (fit.0.0, branches_valid rest fit.1)
branches_valid (NullThen rest) fit = (tt, branches_valid rest fit)

argument_valid : (shared : Bool) (count levels : ℕ) (c : CommandTree) → IsCommand shared count levels c → CommandFits c → IsValidWithin 1 (argument_item c)
argument_valid shared count levels (Test kind report) is fits = omega (arith, is)
argument_valid shared count levels (Act kind report) is fits = omega (arith, is.1)
argument_valid shared count levels (Index (One component)) is fits = fits
argument_valid shared count levels (Index All) is fits = tt
argument_valid shared count levels (Index (Listed components)) is fits = (omega arith, omega (arith, index_count components, fits.0), indices_valid components fits.1)
argument_valid shared count levels (Override list) is fits = override_valid list is.0 is.2
argument_valid shared count levels (TryEach tries) is fits = (omega arith, fits.0, branches_valid tries fits.1)
argument_valid shared count levels (RunSequence inner) is fits = fits.0

steps_valid : (shared : Bool) (count levels : ℕ) (s : SequenceTree) → AreCommands shared count levels s → StepsFit s → AreValidWithin 1 (step_items s)
steps_valid shared count levels NoSteps are fit = tt
steps_valid shared count levels (StepThen place c rest) are fit = (code_small c, (argument_valid shared count levels c are.0 fit.0, steps_valid shared count levels rest are.1 fit.1))

pub written_spells : (shared : Bool) (count levels : ℕ) (s : SequenceTree) → IsSequence shared count levels s → SequenceFits s → Spells (sequence_item s) (spell (sequence_item s))
written_spells shared count zero s is fits = absurd is
written_spells shared count (suc levels) NoSteps is fits = absurd is
written_spells shared count (suc levels) (StepThen place c rest) is fits = record { valid = (omega arith, fits.0, steps_valid shared count levels (StepThen place c rest) is fits.1); is = refl }
