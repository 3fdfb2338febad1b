-- The parts of a sequence or a try each are smaller than the whole.
use Rattle.std.proofs.Common.{◌≡◌, ℕ, zero, suc, ◌+◌, ◌≤◌, ◌<◌, max, List, [], ◌∷◌, length, get_or, Option, Some, None, arith, ap, sym, ◌∙◌}
use denote.Param.Weighed.{most, at_most}
use Rattle.suit_commands.specs.Tree.{SequenceTree, BranchesTree}
use Rattle.suit_commands.specs.View.{sequence_tree, branches_tree}
use Rattle.suit_commands.specs.Size.{sequence_size, branches_size}
use Rattle.suit_commands.specs.Falls.{sequence_falls}
use Rattle.suit_commands.specs.declared.command.Step.{Step}
use Rattle.suit_commands.specs.declared.command.Branches.TheDeep.{deep-Step}

pub step_smaller : (ss : List Step) (i : ℕ) (d s : Step) (whole : SequenceTree) → i < length ss
    → s ≡ get_or ss i d → sequence_tree ss ≡ whole → deep-Step s ≤ sequence_size whole
step_smaller ss i d s whole lt is of =
    let a : deep-Step (get_or ss i d) ≤ most deep-Step ss = at_most deep-Step ss i d lt in
    let b : max (most deep-Step ss) 0 ≤ sequence_size (sequence_tree ss) = sequence_falls ss in
    let e : deep-Step s ≡ deep-Step (get_or ss i d) = ap deep-Step is in
    let f : sequence_size (sequence_tree ss) ≡ sequence_size whole = ap sequence_size of in
    omega (arith, a, b, e, f)

pub branch_smaller : (bs : List (Option SequenceTree)) (i : ℕ) (d : Option SequenceTree)
    (s : SequenceTree)
    → i < length bs → get_or bs i d ≡ Some s
    → sequence_size s + 1 ≤ branches_size (branches_tree bs)
branch_smaller [] i d s lt e = absurd (omega arith)
branch_smaller (None ∷ bs) zero d s lt e = absurd cc
branch_smaller (Some x ∷ bs) zero d s lt e =
    let same : x ≡ s = cc in let z : sequence_size x
    ≡ sequence_size s = ap sequence_size same in omega (arith, z)
branch_smaller (None ∷ bs) (suc i) d s lt e = omega (arith, branch_smaller bs i d s (omega arith) e)
branch_smaller (Some x ∷ bs) (suc i) d s lt e =
    omega (arith, branch_smaller bs i d s (omega arith) e)

pub branch_inside : (bs : List (Option SequenceTree)) (i : ℕ) (d b : Option SequenceTree)
    (s : SequenceTree) (whole : BranchesTree)
    → i < length bs → b ≡ get_or bs i d → b ≡ Some s → branches_tree bs ≡ whole
    → sequence_size s + 1 ≤ branches_size whole
branch_inside bs i d b s whole lt is some of =
    let a = branch_smaller bs i d s lt (sym is ∙ some) in
    let f : branches_size (branches_tree bs) ≡ branches_size whole = ap branches_size of in
    omega (arith, a, f)
