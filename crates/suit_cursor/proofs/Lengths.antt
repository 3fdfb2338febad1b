-- Commands and branches take at least as many bytes as they have parts.
use Rattle.std.proofs.Common.{◌≡◌, ℕ, zero, suc, ◌+◌, ◌≤◌, ◌<◌, List, [], ◌∷◌, ◌++◌, ◌^◌, length, Option, Some, None, refl, sym, ap, subst, arith, length-append}
use Rattle.std.specs.List.{range_with_len}
use Rattle.std.proofs.lemmas.List.FromFn.{length-range_with_len}
use Rattle.det_cbor.specs.DataItem.{DataItem, UnsignedInteger, ByteString, ArrayOf, NullItem, DataItems, item_count, spell, spell_items}
use Rattle.det_cbor.specs.Heads.{head_bytes}
use Rattle.det_cbor.proofs.OneSpelling.{not_empty}
use Rattle.suit_commands.specs.declared.selection.Selection.{Selection}
use Rattle.suit_commands.specs.declared.selection.Selection.TheVariants.{One, All, Listed}
use Rattle.suit_commands.specs.Selections.{selected_by}
use Rattle.suit_commands.specs.SequenceMaking.{code_of, step_items, argument_item, branch_items, sequence_item, inner_item}
use Rattle.suit_commands.specs.Sequences.{index_items}
use Rattle.suit_commands.specs.Tree.{CommandTree, Test, Act, Index, Override, TryEach, RunSequence, SequenceTree, NoSteps, StepThen, BranchesTree, NoBranches, BranchThen, NullThen}
use Rattle.suit_cursor.specs.Spelled.{IsShortCommand, AreShortSteps, AreShortBranches}
use Rattle.suit_cursor.specs.Walking.{branches_of, branch_count, branch_at}

array_longer : (xs : DataItems) → length (spell_items xs) ≤ length (spell (ArrayOf xs))
array_longer xs = omega (arith, length-append (head_bytes 4 (item_count xs)) (spell_items xs))

inner_longer : (inner : SequenceTree) → length (spell_items (step_items inner)) ≤ length (spell (inner_item inner))
inner_longer inner = omega (arith, array_longer (step_items inner), length-append (head_bytes 2 (length (spell (sequence_item inner)))) (spell (sequence_item inner)))

-- ---- lists

items_counted : (is : List ℕ) → length is ≤ length (spell_items (index_items is))
items_counted [] = omega arith
items_counted (i ∷ is) = omega (arith, items_counted is, not_empty (UnsignedInteger i), length-append (spell (UnsignedInteger i)) (spell_items (index_items is)))

listed_short : (is : List ℕ) → length is ≤ length (spell (ArrayOf (index_items is)))
listed_short is = omega (arith, items_counted is, array_longer (index_items is))

pub selected_short : (count : ℕ) (selection : Selection) → count < 2 ^ 32 → IsShortCommand (Index selection) → length (selected_by selection count) < 2 ^ 32
selected_short count (One component) small short = omega arith
selected_short count All small short = omega (arith, small, length-range_with_len 0 count)
selected_short count (Listed is) small short = omega (arith, short, listed_short is)

branches_counted : (bs : BranchesTree) → branch_count bs ≤ length (spell_items (branch_items bs))
branches_counted NoBranches = omega arith
branches_counted (BranchThen inner rest) = omega (arith, branches_counted rest, not_empty (inner_item inner), length-append (spell (inner_item inner)) (spell_items (branch_items rest)))
branches_counted (NullThen rest) = omega (arith, branches_counted rest, not_empty NullItem, length-append (spell NullItem) (spell_items (branch_items rest)))

pub tries_short : (bs : BranchesTree) → branch_count bs ≤ length (spell (ArrayOf (branch_items bs)))
tries_short bs = omega (arith, branches_counted bs, array_longer (branch_items bs))

-- ---- parts are no longer than the whole

pub step_short : (place : ℕ) (c : CommandTree) (rest : SequenceTree) → AreShortSteps (StepThen place c rest) → IsShortCommand c × AreShortSteps rest
step_short place c rest short =
    let code = length-append (spell (UnsignedInteger (code_of c))) (spell (argument_item c) ++ spell_items (step_items rest)) in
    let argument = length-append (spell (argument_item c)) (spell_items (step_items rest)) in
    (omega (arith, short, code, argument), omega (arith, short, code, argument))

pub whole_short : (s : SequenceTree) (bytes : List ℕ) → bytes ≡ spell (sequence_item s) → length bytes < 2 ^ 32 → AreShortSteps s
whole_short s bytes is short = omega (arith, short, ap length is, array_longer (step_items s))

pub branches_short : (c : CommandTree) → IsShortCommand c → AreShortBranches (branches_of c)
branches_short (Test kind report) short = omega arith
branches_short (Act kind report) short = omega arith
branches_short (Index selection) short = omega arith
branches_short (Override list) short = omega arith
branches_short (TryEach bs) short = omega (arith, short, array_longer (branch_items bs))
branches_short (RunSequence inner) short = omega (arith, short, length-append (spell (inner_item inner)) [])

pub branch_short : (bs : BranchesTree) (n : ℕ) (s : SequenceTree) → branch_at bs n ≡ Some s → AreShortBranches bs → AreShortSteps s
branch_short NoBranches n s is short = absurd cc
branch_short (BranchThen inner rest) zero s is short =
    let same : inner ≡ s = cc in
    subst AreShortSteps same (omega (arith, short, inner_longer inner, length-append (spell (inner_item inner)) (spell_items (branch_items rest))))
branch_short (BranchThen inner rest) (suc n) s is short =
    branch_short rest n s is (omega (arith, short, length-append (spell (inner_item inner)) (spell_items (branch_items rest))))
branch_short (NullThen rest) zero s is short = absurd cc
branch_short (NullThen rest) (suc n) s is short =
    branch_short rest n s is (omega (arith, short, length-append (spell NullItem) (spell_items (branch_items rest))))
