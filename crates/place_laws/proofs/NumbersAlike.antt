-- Numbers of procedures do not depend on places.
use Rattle.std.proofs.Common.{◌≡◌, ℕ, ◌+◌, ◌*◌, refl, sym, ap, ◌∙◌}
use Rattle.suit_commands.specs.SequenceMaking.{unplaced, unplaced_command, unplaced_branches}
use Rattle.suit_commands.specs.Tree.{CommandTree, Test, Act, Index, Override, TryEach, RunSequence, SequenceTree, NoSteps, StepThen, BranchesTree, NoBranches, BranchThen, NullThen, PlanTree}
use Rattle.suit_commands.specs.Numbers.{Ways, after_inner, after_tries, branches_done, branches_failed, branches_work, command_ways, command_work, count_after, spread_number, start_ways, times, ways_of, work_number, work_of}
use Rattle.place_laws.specs.Judging.{NumbersMove}
use Rattle.place_laws.specs.PlacesApart.{unplaced_plan}

count_unplaced : (c : CommandTree) (count selected : ℕ) → count_after (unplaced_command c) count selected ≡ count_after c count selected
count_unplaced (Test kind report) count selected = refl
count_unplaced (Act kind report) count selected = refl
count_unplaced (Index selection) count selected = refl
count_unplaced (Override list) count selected = refl
count_unplaced (TryEach bs) count selected = refl
count_unplaced (RunSequence s) count selected = refl

mutual
  work_unplaced : (s : SequenceTree) (count selected : ℕ) → work_of (unplaced s) count selected ≡ work_of s count selected
  work_unplaced NoSteps count selected = refl
  work_unplaced (StepThen p c s) count selected =
      let rest = work_unplaced s count (count_after (unplaced_command c) count selected) ∙ ap (work_of s count) (count_unplaced c count selected) in
      let first = command_work_unplaced c count selected in
      λ i. first i + rest i

  command_work_unplaced : (c : CommandTree) (count selected : ℕ) → command_work (unplaced_command c) count selected ≡ command_work c count selected
  command_work_unplaced (Test kind report) count selected = refl
  command_work_unplaced (Act kind report) count selected = refl
  command_work_unplaced (Index selection) count selected = refl
  command_work_unplaced (Override list) count selected = refl
  command_work_unplaced (TryEach bs) count selected = ap (λ (n : ℕ). selected * (1 + n)) (branches_work_unplaced bs count)
  command_work_unplaced (RunSequence s) count selected = ap (λ (n : ℕ). selected * (1 + n)) (work_unplaced s count 1)

  branches_work_unplaced : (bs : BranchesTree) (count : ℕ) → branches_work (unplaced_branches bs) count ≡ branches_work bs count
  branches_work_unplaced NoBranches count = refl
  branches_work_unplaced (BranchThen s bs) count = let first = work_unplaced s count 1 in let rest = branches_work_unplaced bs count in λ i. first i + rest i
  branches_work_unplaced (NullThen bs) count = branches_work_unplaced bs count

mutual
  ways_unplaced : (s : SequenceTree) (count selected : ℕ) (w : Ways) → ways_of (unplaced s) count selected w ≡ ways_of s count selected w
  ways_unplaced NoSteps count selected w = refl
  ways_unplaced (StepThen p c s) count selected w =
      let first = command_ways_unplaced c count selected w in
      ways_unplaced s count (count_after (unplaced_command c) count selected) (command_ways (unplaced_command c) count selected w)
      ∙ (λ i. ways_of s count (count_unplaced c count selected i) (first i))

  command_ways_unplaced : (c : CommandTree) (count selected : ℕ) (w : Ways) → command_ways (unplaced_command c) count selected w ≡ command_ways c count selected w
  command_ways_unplaced (Test kind report) count selected w = refl
  command_ways_unplaced (Act kind report) count selected w = refl
  command_ways_unplaced (Index selection) count selected w = refl
  command_ways_unplaced (Override list) count selected w = refl
  command_ways_unplaced (TryEach bs) count selected w =
      let done = done_unplaced bs count in let failed = failed_unplaced bs count in λ i. times selected (after_tries (done i) (failed i)) w
  command_ways_unplaced (RunSequence s) count selected w = ap (λ (x : Ways). times selected (after_inner x) w) (ways_unplaced s count 1 start_ways)

  done_unplaced : (bs : BranchesTree) (count : ℕ) → branches_done (unplaced_branches bs) count ≡ branches_done bs count
  done_unplaced NoBranches count = refl
  done_unplaced (BranchThen s bs) count =
      let first = ways_unplaced s count 1 start_ways in let rest = done_unplaced bs count in λ i. (first i).on + (first i).off * rest i
  done_unplaced (NullThen bs) count = refl

  failed_unplaced : (bs : BranchesTree) (count : ℕ) → branches_failed (unplaced_branches bs) count ≡ branches_failed bs count
  failed_unplaced NoBranches count = refl
  failed_unplaced (BranchThen s bs) count =
      let first = ways_unplaced s count 1 start_ways in let rest = failed_unplaced bs count in λ i. (first i).off * rest i
  failed_unplaced (NullThen bs) count = refl

-- ---- procedures

on_unplaced : (s : SequenceTree) (count : ℕ) → (ways_of (unplaced s) count 1 start_ways).on ≡ (ways_of s count 1 start_ways).on
on_unplaced s count = ap (λ (w : Ways). w.on) (ways_unplaced s count 1 start_ways)

plan_work : (a : PlanTree) → work_number (unplaced_plan a) ≡ work_number a
plan_work a =
    let shared = work_unplaced a.shared a.count 1 in
    let first = work_unplaced a.first a.count 1 in
    let second = work_unplaced a.second a.count 1 in
    let third = work_unplaced a.third a.count 1 in
    λ i. (shared i + first i) + (shared i + second i) + (shared i + third i)

plan_spread : (a : PlanTree) → spread_number (unplaced_plan a) ≡ spread_number a
plan_spread a =
    let shared = on_unplaced a.shared a.count in
    let first = on_unplaced a.first a.count in
    let second = on_unplaced a.second a.count in
    let third = on_unplaced a.third a.count in
    λ i. (shared i * first i) * (shared i * second i) * (shared i * third i)

pub numbers_move : NumbersMove
numbers_move a b same =
    let work : work_number a ≡ work_number b = sym (plan_work a) ∙ ap work_number same ∙ plan_work b in
    let spread : spread_number a ≡ spread_number b = sym (plan_spread a) ∙ ap spread_number same ∙ plan_spread b in
    record { work = work; spread = spread; width = λ i. work i * spread i }
