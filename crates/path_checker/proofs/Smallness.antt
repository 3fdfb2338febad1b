-- Components that there is room for, one step, component or branch after another.
use Rattle.std.proofs.Common.{◌≡◌, ℕ, zero, suc, ◌+◌, ◌<◌, add-one, List, [], ◌∷◌, Option, Some, length, get_or, drop, sym, ap, ◌∙◌, subst}
use Rattle.std.proofs.Math.Seq.{drop-cons}
use Rattle.suit_commands.specs.Tree.{SequenceTree}
use Rattle.suit_commands.specs.View.{sequence_tree, command_tree, branches_tree}
use Rattle.suit_commands.specs.declared.command.Step.{Step}
use Rattle.path_checker.specs.Small.{IsSmallSequence, IsSmallCommand, AreSmallBranches}

pub drop_next : {A : Type 0} (xs : List A) (i : ℕ) (d : A) → i < length xs → drop i xs ≡ get_or xs i d ∷ drop (i + 1) xs
drop_next {A} xs i d lt = drop-cons xs i d lt ∙ ap (λ (m : ℕ). get_or xs i d ∷ drop m xs) (sym (add-one i))

pub small_step : (count : ℕ) (ss : List Step) (i : ℕ) (d : Step) → i < length ss → IsSmallSequence count (sequence_tree (drop i ss))
    → IsSmallCommand count (command_tree (get_or ss i d).command) × IsSmallSequence count (sequence_tree (drop (i + 1) ss))
small_step count ss i d lt all = subst (λ (xs : List Step). IsSmallSequence count (sequence_tree xs)) (drop_next ss i d lt) all

pub small_after : (count : ℕ) (ss : List Step) (n : ℕ) → IsSmallSequence count (sequence_tree ss) → IsSmallSequence count (sequence_tree (drop n ss))
small_after count ss zero small = small
small_after count [] (suc n) small = small
small_after count (s ∷ ss) (suc n) small = small_after count ss n small.1

pub small_branch : (count : ℕ) (bs : List (Option SequenceTree)) (i : ℕ) (d : Option SequenceTree) (inner : SequenceTree) → i < length bs → get_or bs i d ≡ Some inner → AreSmallBranches count (branches_tree (drop i bs))
    → IsSmallSequence count inner × AreSmallBranches count (branches_tree (drop (i + 1) bs))
small_branch count bs i d inner lt is all =
    subst (λ (o : Option SequenceTree). AreSmallBranches count (branches_tree (o ∷ drop (i + 1) bs))) is (subst (λ (xs : List (Option SequenceTree)). AreSmallBranches count (branches_tree xs)) (drop_next bs i d lt) all)
