-- Trees that are copied part by part, and the measures of parts.
use Rattle.std.proofs.Common.{◌≡◌, ◌∙◌, ℕ, ◌+◌, ◌≤◌, ◌<◌, List, [], ◌∷◌, ◌++◌, Option, Some, None, refl, sym, ap, append_assoc, arith}
use Rattle.suit_commands.specs.SequenceJudging.{branch_before}
use Rattle.suit_commands.specs.Size.{sequence_size, command_size, branches_size}
use Rattle.suit_commands.specs.Tree.{CommandTree, SequenceTree, NoSteps, StepThen, BranchesTree, NoBranches, BranchThen, NullThen}
use Rattle.suit_commands.specs.View.{step_after, branch_after}
use Rattle.suit_commands.proofs.ReadingSteps.{steps_append, branches_append}

-- ---- lists

pub one_copied : {A : Type 0} (front before after whole : List A) (x y : A) → before ≡ x ∷ after → y ≡ x → front ++ before ≡ whole → (front ++ y ∷ []) ++ after ≡ whole
one_copied {A} front before after whole x y is same so_far =
    append_assoc front (y ∷ []) after ∙ ap (λ (z : A). front ++ z ∷ after) same ∙ ap (λ (l : List A). front ++ l) (sym is) ∙ so_far

-- ---- steps

steps_moved : (front : SequenceTree) (place : ℕ) (command : CommandTree) (others : SequenceTree) → steps_append (step_after front place command) others ≡ steps_append front (StepThen place command others)
steps_moved NoSteps place command others = refl
steps_moved (StepThen p c rest) place command others = ap (StepThen p c) (steps_moved rest place command others)

steps_end : (front : SequenceTree) → steps_append front NoSteps ≡ front
steps_end NoSteps = refl
steps_end (StepThen place command rest) = ap (StepThen place command) (steps_end rest)

pub step_copied : (front before after whole : SequenceTree) (place : ℕ) (command copied : CommandTree) → before ≡ StepThen place command after → copied ≡ command → steps_append front before ≡ whole
    → steps_append (step_after front place copied) after ≡ whole
step_copied front before after whole place command copied is same so_far =
    steps_moved front place copied after
    ∙ ap (λ (c : CommandTree). steps_append front (StepThen place c after)) same
    ∙ ap (steps_append front) (sym is) ∙ so_far

pub steps_copied : (front before whole : SequenceTree) → before ≡ NoSteps → steps_append front before ≡ whole → front ≡ whole
steps_copied front before whole none so_far = sym (steps_end front) ∙ ap (steps_append front) (sym none) ∙ so_far

-- ---- branches

branches_moved : (front : BranchesTree) (b : Option SequenceTree) (others : BranchesTree) → branches_append (branch_after front b) others ≡ branches_append front (branch_before b others)
branches_moved NoBranches (Some s) others = refl
branches_moved NoBranches None others = refl
branches_moved (BranchThen s rest) b others = ap (BranchThen s) (branches_moved rest b others)
branches_moved (NullThen rest) b others = ap NullThen (branches_moved rest b others)

branches_end : (front : BranchesTree) → branches_append front NoBranches ≡ front
branches_end NoBranches = refl
branches_end (BranchThen s rest) = ap (BranchThen s) (branches_end rest)
branches_end (NullThen rest) = ap NullThen (branches_end rest)

pub branch_copied : (front before after whole : BranchesTree) (branch copied : Option SequenceTree) → before ≡ branch_before branch after → copied ≡ branch → branches_append front before ≡ whole
    → branches_append (branch_after front copied) after ≡ whole
branch_copied front before after whole branch copied is same so_far =
    branches_moved front copied after
    ∙ ap (λ (b : Option SequenceTree). branches_append front (branch_before b after)) same
    ∙ ap (branches_append front) (sym is) ∙ so_far

pub branches_copied : (front before whole : BranchesTree) → before ≡ NoBranches → branches_append front before ≡ whole → front ≡ whole
branches_copied front before whole none so_far = sym (branches_end front) ∙ ap (branches_append front) (sym none) ∙ so_far

-- ---- measures

abbrev pub branch_size : Option SequenceTree → ℕ
branch_size None = 0
branch_size (Some inner) = 1 + sequence_size inner

some_size : (s : SequenceTree) → 1 ≤ sequence_size s
some_size NoSteps = omega arith
some_size (StepThen place command rest) = omega arith

some_branches : (bs : BranchesTree) → 1 ≤ branches_size bs
some_branches NoBranches = omega arith
some_branches (BranchThen inner rest) = omega arith
some_branches (NullThen rest) = omega arith

pub step_smaller : (before after : SequenceTree) (place : ℕ) (command : CommandTree) → before ≡ StepThen place command after → (command_size command < sequence_size before) × (sequence_size after < sequence_size before)
step_smaller before after place command is = let e = ap sequence_size is in (omega (arith, e, some_size after), omega (arith, e))

pub branch_smaller : (before after : BranchesTree) (branch : Option SequenceTree) → before ≡ branch_before branch after → (branch_size branch < branches_size before) × (branches_size after < branches_size before)
branch_smaller before after None is = let e = ap branches_size is in (omega (arith, e, some_branches after), omega (arith, e))
branch_smaller before after (Some inner) is = let e = ap branches_size is in (omega (arith, e, some_branches after), omega (arith, e))
