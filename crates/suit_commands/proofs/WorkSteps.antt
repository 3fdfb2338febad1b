-- One more command or branch is counted: the work counted so far and the work that is left are the whole.
use Rattle.std.proofs.Common.{◌≡◌, ℕ, ◌+◌, ◌*◌, ◌<◌, ◌≤◌, ◌^◌, List, ◌∷◌, length, get_or, drop, Option, Some, None, refl, sym, ◌∙◌, ap, subst, add-zero}
use Rattle.suit_commands.specs.Tree.{SequenceTree, BranchesTree}
use Rattle.suit_commands.specs.Capped.{capped}
use Rattle.suit_commands.specs.Numbers.{work_of, command_work, branches_work, count_after}
use Rattle.suit_commands.specs.View.{command_tree, sequence_tree, branches_tree}
use Rattle.suit_commands.specs.declared.command.Step.{Step}
use Rattle.suit_commands.specs.declared.command.Command.{Command}
use Rattle.suit_commands.specs.declared.command.Command.TheVariants as commands
use Rattle.suit_commands.specs.declared.selection.Selection.{Selection}
use Rattle.suit_commands.proofs.Capping.{capped_small, capped_three, capped_plus_right, capped_times_right}
use Rattle.suit_commands.proofs.Steps.{step_there, branch_there, no_step, no_branch_left}

-- an inner sequence, once for each selected component
pub inner_work : (selected work w more : ℕ) → w ≡ capped work → more ≡ capped (1 + w) → capped (selected * more) ≡ capped (selected * (1 + work))
inner_work selected work w more w_is more_is = rw (more_is, w_is) (capped_times_right selected (1 + capped work) ∙ capped_inside selected work)
  where
    capped_inside : (s n : ℕ) → capped (s * (1 + capped n)) ≡ capped (s * (1 + n))
    capped_inside s n = sym (capped_times_right s (1 + capped n)) ∙ ap (λ (x : ℕ). capped (s * x)) (capped_plus_right 1 n) ∙ capped_times_right s (1 + n)

pub step_counted : (ss : List Step) (i : ℕ) (d s : Step) (count selected after total once next whole : ℕ) → i < length ss → s ≡ get_or ss i d
    → once ≡ capped (command_work (command_tree s.command) count selected) → next ≡ capped (total + once)
    → after ≡ count_after (command_tree s.command) count selected
    → capped (total + work_of (sequence_tree (drop i ss)) count selected) ≡ whole
    → capped (next + work_of (sequence_tree (drop (i + 1) ss)) count after) ≡ whole
step_counted ss i d s count selected after total once next whole lt is once_is next_is after_is sum =
    let left = work_of (sequence_tree (drop (i + 1) ss)) count (count_after (command_tree s.command) count selected) in
    let sum2 : capped (total + (command_work (command_tree s.command) count selected + left)) ≡ whole =
    subst (λ (x : SequenceTree). capped (total + work_of x count selected) ≡ whole) (step_there ss i d s lt is) sum in
    rw (next_is, once_is, after_is) (capped_three total (command_work (command_tree s.command) count selected) left ∙ sum2)

pub branch_counted : (bs : List (Option SequenceTree)) (i : ℕ) (d b : Option SequenceTree) (inner : SequenceTree) (count total once next whole : ℕ) → i < length bs → b ≡ get_or bs i d
    → b ≡ Some inner → once ≡ capped (work_of inner count 1) → next ≡ capped (total + once)
    → capped (total + branches_work (branches_tree (drop i bs)) count) ≡ whole
    → capped (next + branches_work (branches_tree (drop (i + 1) bs)) count) ≡ whole
branch_counted bs i d b inner count total once next whole lt is some once_is next_is sum =
    let left = branches_work (branches_tree (drop (i + 1) bs)) count in
    let e : branches_tree (drop i bs) ≡ branches_tree (Some inner ∷ drop (i + 1) bs) = branch_there bs i d b lt is ∙ ap (λ (x : Option SequenceTree). branches_tree (x ∷ drop (i + 1) bs)) some in
    let sum2 : capped (total + (work_of inner count 1 + left)) ≡ whole = subst (λ (x : BranchesTree). capped (total + branches_work x count) ≡ whole) e sum in
    rw (next_is, once_is) (capped_three total (work_of inner count 1) left ∙ sum2)

pub null_counted : (bs : List (Option SequenceTree)) (i : ℕ) (d b : Option SequenceTree) (count total next whole : ℕ) → i < length bs → b ≡ get_or bs i d
    → b ≡ None → next ≡ total
    → capped (total + branches_work (branches_tree (drop i bs)) count) ≡ whole
    → capped (next + branches_work (branches_tree (drop (i + 1) bs)) count) ≡ whole
null_counted bs i d b count total next whole lt is none next_is sum =
    let e : branches_tree (drop i bs) ≡ branches_tree (None ∷ drop (i + 1) bs) = branch_there bs i d b lt is ∙ ap (λ (x : Option SequenceTree). branches_tree (x ∷ drop (i + 1) bs)) none in
    rw next_is (subst (λ (x : BranchesTree). capped (total + branches_work x count) ≡ whole) e sum)

-- at the end, the count is the whole
pub steps_counted : (ss : List Step) (i count selected total whole : ℕ) → length ss ≤ i → total < 2 ^ 64
    → capped (total + work_of (sequence_tree (drop i ss)) count selected) ≡ whole → total ≡ whole
steps_counted ss i count selected total whole past fits sum =
    let all : capped (total + 0) ≡ whole = subst (λ (x : SequenceTree). capped (total + work_of x count selected) ≡ whole) (no_step ss i past) sum in
    sym (capped_small total fits) ∙ ap capped (sym (add-zero total)) ∙ all

pub branches_counted : (bs : List (Option SequenceTree)) (i count total whole : ℕ) → length bs ≤ i → total < 2 ^ 64
    → capped (total + branches_work (branches_tree (drop i bs)) count) ≡ whole → total ≡ whole
branches_counted bs i count total whole past fits sum =
    let all : capped (total + 0) ≡ whole = subst (λ (x : BranchesTree). capped (total + branches_work x count) ≡ whole) (no_branch_left bs i past) sum in
    sym (capped_small total fits) ∙ ap capped (sym (add-zero total)) ∙ all

-- any other command is executed once for each selected component
pub plain_work : (command : Command) (count selected : ℕ) → selected < 2 ^ 64
    → ((s : Selection) → command ≡ commands.Index s → ⊥) → ((b : BranchesTree) → command ≡ commands.TryEach b → ⊥) → ((s : SequenceTree) → command ≡ commands.Run s → ⊥)
    → selected ≡ capped (command_work (command_tree command) count selected)
plain_work (commands.Test kind report) count selected small a b d = sym (capped_small selected small)
plain_work (commands.Act kind report) count selected small a b d = sym (capped_small selected small)
plain_work (commands.Override list) count selected small a b d = sym (capped_small selected small)
plain_work (commands.Index s) count selected small a b d = absurd (a s refl)
plain_work (commands.TryEach s) count selected small a b d = absurd (b s refl)
plain_work (commands.Run s) count selected small a b d = absurd (d s refl)
