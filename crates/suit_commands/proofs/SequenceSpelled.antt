-- How arrays of a sequence are spelled, piece by piece, and how many items they have.
use Rattle.std.proofs.Common.{◌≡◌, ℕ, ◌*◌, List, [], ◌∷◌, ◌++◌, length, Option, Some, None, refl, ap, ◌∙◌, append_assoc, arith}
use Rattle.det_cbor.specs.Heads.{head_bytes}
use Rattle.det_cbor.specs.DataItem.{ArrayOf, DataItems, item_count, spell, spell_items}
use Rattle.suit_params.proofs.ParamSpelled.{after_two}
use Rattle.suit_commands.specs.SequenceMaking.{step_items, branch_items}
use Rattle.suit_commands.specs.Sequences.{index_items}
use Rattle.suit_commands.specs.Tree.{SequenceTree, BranchesTree}
use Rattle.suit_commands.specs.View.{sequence_tree, branches_tree}
use Rattle.suit_commands.specs.declared.command.Step.{Step}

-- a head and then the items were appended
pub array_written : (out l m : List ℕ) (n : ℕ) (items : DataItems) → n ≡ item_count items → l ≡ out ++ head_bytes 4 n → m ≡ l ++ spell_items items → m ≡ out ++ spell (ArrayOf items)
array_written out l m n items counted head rest =
    after_two out (head_bytes 4 n) (spell_items items) l m head rest
    ∙ append_assoc out (head_bytes 4 n) (spell_items items)
    ∙ ap (λ (k : ℕ). out ++ (head_bytes 4 k ++ spell_items items)) counted

-- ---- counts

pub index_count : (is : List ℕ) → length is ≡ item_count (index_items is)
index_count [] = refl
index_count (i ∷ is) = omega (arith, index_count is)

step_count : (ss : List Step) → 2 * length ss ≡ item_count (step_items (sequence_tree ss))
step_count [] = refl
step_count (s ∷ ss) = omega (arith, step_count ss)

branch_count : (bs : List (Option SequenceTree)) → length bs ≡ item_count (branch_items (branches_tree bs))
branch_count [] = refl
branch_count (Some s ∷ bs) = omega (arith, branch_count bs)
branch_count (None ∷ bs) = omega (arith, branch_count bs)

-- the counts of the lists that hold sequences and branches
pub steps_counted : (ss : List Step) (s : SequenceTree) → sequence_tree ss ≡ s → 2 * length ss ≡ item_count (step_items s)
steps_counted ss s is = step_count ss ∙ ap (λ (k : SequenceTree). item_count (step_items k)) is

pub branches_counted : (bs : List (Option SequenceTree)) (tries : BranchesTree) → branches_tree bs ≡ tries → length bs ≡ item_count (branch_items tries)
branches_counted bs tries is = branch_count bs ∙ ap (λ (k : BranchesTree). item_count (branch_items k)) is
