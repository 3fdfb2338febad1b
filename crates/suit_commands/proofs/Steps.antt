-- The rest of a sequence or a try each is the next element and what follows it.
use Rattle.std.proofs.Common.{◌≡◌, ℕ, ◌+◌, ◌<◌, ◌≤◌, List, ◌∷◌, length, get_or, drop, Option, ap, add-one, drop-cons}
use Rattle.std.proofs.lemmas.List.{drop_all}
use Rattle.suit_commands.specs.Tree.{SequenceTree, NoSteps, StepThen, NoBranches}
use Rattle.suit_commands.specs.View.{command_tree, sequence_tree, branches_tree}
use Rattle.suit_commands.specs.declared.command.Step.{Step}

pub step_there : (ss : List Step) (i : ℕ) (d s : Step) → i < length ss → s ≡ get_or ss i d → sequence_tree (drop i ss) ≡ StepThen s.place (command_tree s.command) (sequence_tree (drop (i + 1) ss))
step_there ss i d s lt is =
    let e : drop i ss ≡ s ∷ drop (i + 1) ss = rw (add-one, is) (drop-cons ss i d lt) in
    ap sequence_tree e

pub branch_there : (bs : List (Option SequenceTree)) (i : ℕ) (d b : Option SequenceTree) → i < length bs → b ≡ get_or bs i d → branches_tree (drop i bs) ≡ branches_tree (b ∷ drop (i + 1) bs)
branch_there bs i d b lt is =
    let e : drop i bs ≡ b ∷ drop (i + 1) bs = rw (add-one, is) (drop-cons bs i d lt) in
    ap branches_tree e

-- ---- nothing is left after the last

pub no_step : (ss : List Step) (i : ℕ) → length ss ≤ i → sequence_tree (drop i ss) ≡ NoSteps
no_step ss i past = ap sequence_tree (drop_all i ss past)

pub no_branch_left : (bs : List (Option SequenceTree)) (i : ℕ) → length bs ≤ i → branches_tree (drop i bs) ≡ NoBranches
no_branch_left bs i past = ap branches_tree (drop_all i bs past)
