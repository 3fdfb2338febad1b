-- One more command or branch is counted: the ways counted so far, followed by those that are left, are the
-- whole.
use Rattle.std.proofs.Common.{◌≡◌, ℕ, zero, suc, ◌+◌, ◌<◌, ◌≤◌, List, ◌∷◌, length, get_or, drop, Option, Some, None, refl, sym, ◌∙◌, ap, subst, arith}
use Rattle.suit_commands.specs.Tree.{CommandTree, Test, Act, Index, Override, TryEach, RunSequence, SequenceTree, NoSteps, StepThen, BranchesTree}
use Rattle.suit_commands.specs.Capped.{capped}
use Rattle.suit_commands.specs.Numbers.{Ways, start_ways, times, after_test, after_inner, after_tries, ways_of, command_ways, branches_done, branches_failed, count_after}
use Rattle.suit_commands.specs.WaysOnce.{capped_ways, ways_then, ways_else, ways_repeated, no_branch, tried_ways, inner_ways, once_ways}
use Rattle.suit_commands.specs.View.{command_tree, sequence_tree, branches_tree}
use Rattle.suit_commands.specs.declared.command.Step.{Step}
use Rattle.suit_commands.specs.declared.command.Command.{Command}
use Rattle.suit_commands.specs.declared.command.Command.TheVariants as commands
use Rattle.suit_commands.proofs.Capping.{capped_small, capped_plus}
use Rattle.suit_commands.proofs.Steps.{step_there, branch_there, no_step, no_branch_left}
use Rattle.suit_commands.proofs.WaysLaws.{ways_same, then_assoc, else_assoc, then_start, start_then, none_else, else_none, capped_ways_twice, then_capped_left, then_capped_right, else_capped_left, else_capped_right}

-- the list is the whole, and the ways counted and those left are all
abbrev pub IsWalked : Type 0 → Ways → Ways → Ways → Type 0
IsWalked whole ways left all = record {
  whole : whole;
  fits : capped_ways ways ≡ ways;
  ways : capped_ways left ≡ capped_ways all;
}

-- ---- a command that is repeated, after the ways so far

times_then : (n : ℕ) (step : Ways → Ways) (a w : Ways) → ((x : Ways) → step x ≡ ways_then x a) → times n step w ≡ ways_then w (ways_repeated n a)
times_then zero step a w each = sym (then_start w)
times_then (suc n) step a w each = each (times n step w) ∙ ap (λ (x : Ways). ways_then x a) (times_then n step a w each) ∙ then_assoc w (ways_repeated n a) a

nothing_repeated : (n : ℕ) → ways_repeated n start_ways ≡ start_ways
nothing_repeated zero = refl
nothing_repeated (suc n) = then_start (ways_repeated n start_ways) ∙ nothing_repeated n

nothing_after : (n : ℕ) (w : Ways) → w ≡ ways_then w (ways_repeated n start_ways)
nothing_after n w = sym (ap (λ (x : Ways). ways_then w x) (nothing_repeated n) ∙ then_start w)

test_then : (x : Ways) → after_test x ≡ ways_then x (record { on = 1; off = 1 })
test_then x = ways_same _ _ (omega arith) (omega arith)

pub ways_once : (command : CommandTree) (count selected : ℕ) (w : Ways) → command_ways command count selected w ≡ ways_then w (ways_repeated selected (once_ways command count))
ways_once (Test kind report) count selected w = times_then selected after_test (record { on = 1; off = 1 }) w test_then
ways_once (Act kind report) count selected w = nothing_after selected w
ways_once (Index selection) count selected w = nothing_after selected w
ways_once (Override list) count selected w = nothing_after selected w
ways_once (TryEach branches) count selected w = times_then selected (after_tries (branches_done branches count) (branches_failed branches count)) (tried_ways branches count) w (λ x. refl)
ways_once (RunSequence inner) count selected w = times_then selected (after_inner (ways_of inner count 1 start_ways)) (inner_ways (ways_of inner count 1 start_ways)) w (λ x. refl)

-- the ways of a sequence come after the ways so far too
pub ways_from : (s : SequenceTree) (count selected : ℕ) (w : Ways) → ways_of s count selected w ≡ ways_then w (ways_of s count selected start_ways)
ways_from NoSteps count selected w = sym (then_start w)
ways_from (StepThen place command rest) count selected w =
    let after = count_after command count selected in
    let left = ways_of rest count after start_ways in
    let here = ways_repeated selected (once_ways command count) in
    let one : ways_of rest count after (command_ways command count selected w) ≡ ways_then w (ways_then here left) =
    ways_from rest count after (command_ways command count selected w) ∙ ap (λ (x : Ways). ways_then x left) (ways_once command count selected w) ∙ then_assoc w here left in
    let two : ways_of rest count after (command_ways command count selected start_ways) ≡ ways_then here left =
    ways_from rest count after (command_ways command count selected start_ways) ∙ ap (λ (x : Ways). ways_then x left) (ways_once command count selected start_ways ∙ start_then here) in
    one ∙ ap (λ (x : Ways). ways_then w x) (sym two)

pub ways_of_step : (place : ℕ) (command : CommandTree) (rest : SequenceTree) (count selected : ℕ) →
    ways_of (StepThen place command rest) count selected start_ways ≡ ways_then (ways_repeated selected (once_ways command count)) (ways_of rest count (count_after command count selected) start_ways)
ways_of_step place command rest count selected =
    ways_from rest count (count_after command count selected) (command_ways command count selected start_ways)
    ∙ ap (λ (x : Ways). ways_then x (ways_of rest count (count_after command count selected) start_ways)) (ways_once command count selected start_ways ∙ start_then (ways_repeated selected (once_ways command count)))

repeated_capped : (n : ℕ) (a : Ways) → capped_ways (ways_repeated n (capped_ways a)) ≡ capped_ways (ways_repeated n a)
repeated_capped zero a = refl
repeated_capped (suc n) a =
    then_capped_right (ways_repeated n (capped_ways a)) a
    ∙ sym (then_capped_left (ways_repeated n (capped_ways a)) a)
    ∙ ap (λ (x : Ways). capped_ways (ways_then x a)) (repeated_capped n a)
    ∙ then_capped_left (ways_repeated n a) a

-- ---- in loops

pub made_fits : (next x : Ways) → next ≡ capped_ways x → capped_ways next ≡ next
made_fits next x is = rw is (capped_ways_twice x)

pub step_ways : (ss : List Step) (i : ℕ) (d s : Step) (count selected after : ℕ) (ways once repeated next whole : Ways) → i < length ss → s ≡ get_or ss i d
    → once ≡ capped_ways (once_ways (command_tree s.command) count) → repeated ≡ capped_ways (ways_repeated selected once)
    → next ≡ capped_ways (ways_then ways repeated) → after ≡ count_after (command_tree s.command) count selected
    → capped_ways (ways_then ways (ways_of (sequence_tree (drop i ss)) count selected start_ways)) ≡ whole
    → capped_ways (ways_then next (ways_of (sequence_tree (drop (i + 1) ss)) count after start_ways)) ≡ whole
step_ways ss i d s count selected after ways once repeated next whole lt is once_is repeated_is next_is after_is held =
    let here = ways_repeated selected (once_ways (command_tree s.command) count) in
    let left = ways_of (sequence_tree (drop (i + 1) ss)) count (count_after (command_tree s.command) count selected) start_ways in
    let now : capped_ways (ways_then ways (ways_then here left)) ≡ whole =
    sym (ap (λ (x : Ways). capped_ways (ways_then ways x)) (ap (λ (x : SequenceTree). ways_of x count selected start_ways) (step_there ss i d s lt is) ∙ ways_of_step s.place (command_tree s.command) (sequence_tree (drop (i + 1) ss)) count selected)) ∙ held in
    let far : repeated ≡ capped_ways here = repeated_is ∙ ap (λ (x : Ways). capped_ways (ways_repeated selected x)) once_is ∙ repeated_capped selected (once_ways (command_tree s.command) count) in
    let taken : next ≡ capped_ways (ways_then ways here) = next_is ∙ ap (λ (x : Ways). capped_ways (ways_then ways x)) far ∙ then_capped_right ways here in
    rw (taken, after_is) (then_capped_left (ways_then ways here) left ∙ ap capped_ways (then_assoc ways here left) ∙ now)

pub steps_ways : (ss : List Step) (i count selected : ℕ) (ways whole : Ways) → length ss ≤ i → capped_ways ways ≡ ways
    → capped_ways (ways_then ways (ways_of (sequence_tree (drop i ss)) count selected start_ways)) ≡ whole → ways ≡ whole
steps_ways ss i count selected ways whole past fits held =
    let all : capped_ways (ways_then ways start_ways) ≡ whole = subst (λ (x : SequenceTree). capped_ways (ways_then ways (ways_of x count selected start_ways)) ≡ whole) (no_step ss i past) held in
    sym fits ∙ ap capped_ways (sym (then_start ways)) ∙ all

-- ---- branches

abbrev pub there_ways : Option SequenceTree → ℕ → Ways
there_ways (Some inner) count = ways_of inner count 1 start_ways
there_ways None count = start_ways

tried_there : (b : Option SequenceTree) (bs : List (Option SequenceTree)) (count : ℕ) → tried_ways (branches_tree (b ∷ bs)) count ≡ ways_else (there_ways b count) (tried_ways (branches_tree bs) count)
tried_there (Some inner) bs count = refl
tried_there None bs count = ways_same _ _ (omega arith) (omega arith)

pub branch_ways : (bs : List (Option SequenceTree)) (i : ℕ) (d b : Option SequenceTree) (count : ℕ) (tried way next whole : Ways) → i < length bs → b ≡ get_or bs i d
    → way ≡ capped_ways (there_ways b count) → next ≡ capped_ways (ways_else tried way)
    → capped_ways (ways_else tried (tried_ways (branches_tree (drop i bs)) count)) ≡ whole
    → capped_ways (ways_else next (tried_ways (branches_tree (drop (i + 1) bs)) count)) ≡ whole
branch_ways bs i d b count tried way next whole lt is way_is next_is held =
    let here = there_ways b count in
    let left = tried_ways (branches_tree (drop (i + 1) bs)) count in
    let now : capped_ways (ways_else tried (ways_else here left)) ≡ whole =
    sym (ap (λ (x : Ways). capped_ways (ways_else tried x)) (ap (λ (x : BranchesTree). tried_ways x count) (branch_there bs i d b lt is) ∙ tried_there b (drop (i + 1) bs) count)) ∙ held in
    let taken : next ≡ capped_ways (ways_else tried here) = next_is ∙ ap (λ (x : Ways). capped_ways (ways_else tried x)) way_is ∙ else_capped_right tried here in
    rw taken (else_capped_left (ways_else tried here) left ∙ ap capped_ways (else_assoc tried here left) ∙ now)

pub branches_ways : (bs : List (Option SequenceTree)) (i count : ℕ) (tried whole : Ways) → length bs ≤ i → capped_ways tried ≡ tried
    → capped_ways (ways_else tried (tried_ways (branches_tree (drop i bs)) count)) ≡ whole → tried ≡ whole
branches_ways bs i count tried whole past fits held =
    let all : capped_ways (ways_else tried no_branch) ≡ whole = subst (λ (x : BranchesTree). capped_ways (ways_else tried (tried_ways x count)) ≡ whole) (no_branch_left bs i past) held in
    sym fits ∙ ap capped_ways (sym (else_none tried)) ∙ all

-- ---- commands

pub start_capped : capped_ways start_ways ≡ start_ways
start_capped = ways_same _ _ (capped_small 1 (omega arith)) (capped_small 0 (omega arith))

pub none_capped : capped_ways no_branch ≡ no_branch
none_capped = ways_same _ _ (capped_small 0 (omega arith)) (capped_small 1 (omega arith))

pub test_capped : ◌≡◌ {A = Ways} (record { on = 1; off = 1 }) (capped_ways (record { on = 1; off = 1 }))
test_capped = ways_same _ _ (sym (capped_small 1 (omega arith))) (sym (capped_small 1 (omega arith)))

pub inner_made : (w inner : Ways) (on : ℕ) → w ≡ capped_ways inner → on ≡ capped (w.on + w.off) → ◌≡◌ {A = Ways} (record { on = on; off = w.off }) (capped_ways (inner_ways inner))
inner_made w inner on w_is on_is = ways_same _ _ (rw (on_is, w_is) (capped_plus inner.on inner.off)) (ap (λ (x : Ways). x.off) w_is)

-- a command other than a condition, a try each and a run sequence
pub other_ways : (command : Command) (count : ℕ) (w : Ways) → w ≡ start_ways
    → ((k r : _) → command ≡ commands.Test k r → ⊥) → ((b : BranchesTree) → command ≡ commands.TryEach b → ⊥) → ((s : SequenceTree) → command ≡ commands.Run s → ⊥)
    → w ≡ capped_ways (once_ways (command_tree command) count)
other_ways (commands.Test kind report) count w is a b d = absurd (a kind report refl)
other_ways (commands.Act kind report) count w is a b d = is ∙ sym start_capped
other_ways (commands.Override list) count w is a b d = is ∙ sym start_capped
other_ways (commands.Index s) count w is a b d = is ∙ sym start_capped
other_ways (commands.TryEach s) count w is a b d = absurd (b s refl)
other_ways (commands.Run s) count w is a b d = absurd (d s refl)

-- ---- before the first

pub steps_begin : (s whole : SequenceTree) (count : ℕ) (ways : Ways) → ways ≡ start_ways → s ≡ whole
    → IsWalked (s ≡ whole) ways (ways_then ways (ways_of s count 1 start_ways)) (ways_of whole count 1 start_ways)
steps_begin s whole count ways is of = record {
  whole = of;
  fits = rw is start_capped;
  ways = rw (is, of) (ap capped_ways (start_then (ways_of whole count 1 start_ways)));
}

pub branches_begin : (bs whole : BranchesTree) (count : ℕ) (ways : Ways) → ways ≡ no_branch → bs ≡ whole
    → IsWalked (bs ≡ whole) ways (ways_else ways (tried_ways bs count)) (tried_ways whole count)
branches_begin bs whole count ways is of = record {
  whole = of;
  fits = rw is none_capped;
  ways = rw (is, of) (ap capped_ways (none_else (tried_ways whole count)));
}

pub some_ways : (b : Option SequenceTree) (inner : SequenceTree) (count : ℕ) (ways : Ways) → b ≡ Some inner → ways ≡ capped_ways (ways_of inner count 1 start_ways) → ways ≡ capped_ways (there_ways b count)
some_ways b inner count ways is made = rw is made

pub null_ways : (b : Option SequenceTree) (count : ℕ) (ways : Ways) → b ≡ None → ways ≡ start_ways → ways ≡ capped_ways (there_ways b count)
null_ways b count ways is made = rw is (made ∙ sym start_capped)
