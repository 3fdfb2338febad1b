-- How much is left to do: less after each call.
use Rattle.std.proofs.Common.{◌≡◌, ℕ, zero, suc, ◌+◌, ◌*◌, ◌≤◌, ◌<◌, List, [], ◌∷◌, ◌++◌, length, get_or, drop, Option, Some, None, ap, ◌∙◌, arith, suc-mul, add_comm}
use Rattle.suit_commands.specs.declared.command.Step.{Step}
use Rattle.suit_commands.specs.Tree.{CommandTree, TryEach, SequenceTree, NoSteps, StepThen, BranchesTree, NoBranches, BranchThen, NullThen}
use Rattle.suit_commands.specs.View.{sequence_tree, command_tree, branches_tree}
use Rattle.path_checker.proofs.Smallness.{drop_next}
use Rattle.path_checker.specs.Rests.{Later, OfPart, OfSteps, OfTries, OfLeave}

abbrev mutual
  pub weight : SequenceTree → ℕ
  weight NoSteps = 0
  weight (StepThen place command rest) = 4 + 22 * once_weight command + weight rest

  -- the weight of a command at one component
  pub once_weight : CommandTree → ℕ
  once_weight (TryEach branches) = 4 + branches_weight branches
  once_weight _ = 0

  pub branches_weight : BranchesTree → ℕ
  branches_weight NoBranches = 0
  branches_weight (NullThen rest) = branches_weight rest
  branches_weight (BranchThen inner rest) = weight inner + branches_weight rest

abbrev pub later_weight : Later → ℕ
later_weight (OfPart sequence) = 1 + weight sequence
later_weight (OfSteps sequence) = 1 + weight sequence
later_weight (OfTries branches place components) = 2 + length components * (4 + branches_weight branches)
later_weight (OfLeave selection soft_failure) = 1

abbrev pub rest_weight : List Later → ℕ
rest_weight [] = 0
rest_weight (first ∷ behind) = later_weight first + rest_weight behind

-- the last branch weighs no more than all
pub last_weight : (bs : List (Option SequenceTree)) (last : SequenceTree) → weight last ≤ branches_weight (branches_tree (bs ++ Some last ∷ []))
last_weight [] last = omega arith
last_weight (None ∷ bs) last = last_weight bs last
last_weight (Some s ∷ bs) last = omega (arith, last_weight bs last)

-- a command, and those after it
pub step_weight : (steps : List Step) (i : ℕ) (d : Step) → i < length steps
    → weight (sequence_tree (drop i steps)) ≡ 4 + 22 * once_weight (command_tree (get_or steps i d).command) + weight (sequence_tree (drop (i + 1) steps))
step_weight steps i d lt = ap (λ (ss : List Step). weight (sequence_tree ss)) (drop_next steps i d lt)

-- the commands from an index on weigh no more than all
pub weight_after : (steps : List Step) (i : ℕ) → weight (sequence_tree (drop i steps)) ≤ weight (sequence_tree steps)
weight_after steps zero = omega arith
weight_after [] (suc i) = omega arith
weight_after (s ∷ steps) (suc i) = omega (arith, weight_after steps i)

-- one more component
pub more_components : (n w : ℕ) → suc n * w ≡ w + n * w
more_components n w = suc-mul n w ∙ add_comm (n * w) w

pub few_components : (n m w : ℕ) → n ≤ m → n * w ≤ m * w
few_components zero m w le = omega arith
few_components (suc n) zero w le = absurd (omega (arith, le))
few_components (suc n) (suc m) w le = omega (arith, few_components n m w (omega (arith, le)), more_components n w, more_components m w)

-- a try each at one more component
pub tries_weight : (branches : BranchesTree) (place c : ℕ) (components left : List ℕ) (behind later : List Later) → components ≡ c ∷ left → later ≡ OfTries branches place left ∷ behind
    → 3 + branches_weight branches + rest_weight later + 1 ≡ 2 + length components * (4 + branches_weight branches) + rest_weight behind
tries_weight branches place c components left behind later is later_is =
    let w : ℕ = 4 + branches_weight branches in
    let a : rest_weight later ≡ 2 + length left * w + rest_weight behind = ap rest_weight later_is in
    let b : length components * w ≡ w + length left * w = ap (λ (cs : List ℕ). length cs * w) is ∙ more_components (length left) w in
    omega (arith, a, b)
