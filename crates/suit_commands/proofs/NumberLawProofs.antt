-- Each sequence of the grammar may complete.
use Rattle.std.proofs.Common.{ℕ, zero, suc, ◌+◌, ◌*◌, ◌≤◌, Bool, true, false, refl, arith}
use Rattle.std.proofs.Math.Nat.{le-mul_of_pos_right}
use Rattle.suit_commands.specs.Tree.{CommandTree, Test, Act, Index, Override, TryEach, RunSequence, SequenceTree, NoSteps, StepThen, BranchesTree, NoBranches, BranchThen, NullThen}
use Rattle.suit_commands.specs.Allowed.{IsSequence, AreCommands, IsCommand, AreBranches, AreTwo, IsMember, IsShared, levels_allowed}
use Rattle.suit_commands.specs.Numbers.{Ways, start_ways, times, after_test, after_inner, after_tries, ways_of, command_ways, branches_done, branches_failed, count_after, on_number, member_spread, spread_number, work_number}
use Rattle.suit_commands.specs.NumberLaws.{NumberLaws}

one_times : (a b : ℕ) → 1 ≤ a → 1 ≤ b → 1 ≤ a * b
one_times a b one_a one_b = let more : a ≤ a * b = le-mul_of_pos_right a (omega arith) in omega (arith, more)

times_on : (n : ℕ) (step : Ways → Ways) (w : Ways) → ((x : Ways) → 1 ≤ x.on → 1 ≤ (step x).on) → 1 ≤ w.on → 1 ≤ (times n step w).on
times_on zero step w keeps one = one
times_on (suc n) step w keeps one = keeps (times n step w) (times_on n step w keeps one)

mutual
  commands_on : (shared : Bool) (count levels selected : ℕ) (s : SequenceTree) (w : Ways) → AreCommands shared count levels s → 1 ≤ w.on → 1 ≤ (ways_of s count selected w).on
  commands_on shared count levels selected NoSteps w allowed one = one
  commands_on shared count levels selected (StepThen place command rest) w allowed one =
      commands_on shared count levels (count_after command count selected) rest (command_ways command count selected w) allowed.1 (command_on shared count levels selected command w allowed.0 one)

  sequence_on : (shared : Bool) (count levels : ℕ) (s : SequenceTree) → IsSequence shared count levels s → 1 ≤ (ways_of s count 1 start_ways).on
  sequence_on shared count zero s allowed = absurd allowed
  sequence_on shared count (suc levels) NoSteps allowed = absurd allowed
  sequence_on shared count (suc levels) (StepThen place command rest) allowed =
      commands_on shared count levels (count_after command count 1) rest (command_ways command count 1 start_ways) allowed.1 (command_on shared count levels 1 command start_ways allowed.0 (omega arith))

  command_on : (shared : Bool) (count levels selected : ℕ) (command : CommandTree) (w : Ways) → IsCommand shared count levels command → 1 ≤ w.on → 1 ≤ (command_ways command count selected w).on
  command_on shared count levels selected (Test kind report) w allowed one = times_on selected after_test w (λ x h. h) one
  command_on shared count levels selected (Act kind report) w allowed one = one
  command_on shared count levels selected (Index selection) w allowed one = one
  command_on shared count levels selected (Override list) w allowed one = one
  command_on shared count levels selected (TryEach branches) w allowed one =
      let done : 1 ≤ branches_done branches count = branches_on shared count levels branches allowed.0 allowed.1 in
      times_on selected (after_tries (branches_done branches count) (branches_failed branches count)) w (λ x h. one_times x.on (branches_done branches count) h done) one
  command_on shared count levels selected (RunSequence inner) w allowed one =
      let done : 1 ≤ (ways_of inner count 1 start_ways).on = sequence_on shared count levels inner allowed in
      let some : 1 ≤ (ways_of inner count 1 start_ways).on + (ways_of inner count 1 start_ways).off = omega (arith, done) in
      times_on selected (after_inner (ways_of inner count 1 start_ways)) w (λ x h. one_times x.on ((ways_of inner count 1 start_ways).on + (ways_of inner count 1 start_ways).off) h some) one

  branches_on : (shared : Bool) (count levels : ℕ) (branches : BranchesTree) → AreTwo branches → AreBranches shared count levels branches → 1 ≤ branches_done branches count
  branches_on shared count levels NoBranches two allowed = absurd two
  branches_on shared count levels (BranchThen inner rest) two allowed =
      let done : 1 ≤ (ways_of inner count 1 start_ways).on = sequence_on shared count levels inner allowed.0 in omega (arith, done)
  branches_on shared count levels (NullThen rest) two allowed = omega arith

member_on : (count : ℕ) (s : SequenceTree) → IsMember count s → 1 ≤ (ways_of s count 1 start_ways).on
member_on count NoSteps allowed = omega arith
member_on count (StepThen place command rest) allowed = sequence_on false count levels_allowed (StepThen place command rest) allowed

shared_on : (count : ℕ) (s : SequenceTree) → IsShared count s → 1 ≤ (ways_of s count 1 start_ways).on
shared_on count NoSteps allowed = omega arith
shared_on count (StepThen place command rest) allowed = sequence_on true count levels_allowed (StepThen place command rest) allowed

pub number_laws : NumberLaws
number_laws plan allowed =
    let a : 1 ≤ on_number plan plan.shared = shared_on plan.count plan.shared allowed.shared in
    let b : 1 ≤ on_number plan plan.first = member_on plan.count plan.first allowed.first in
    let c : 1 ≤ on_number plan plan.second = member_on plan.count plan.second allowed.second in
    let d : 1 ≤ on_number plan plan.third = member_on plan.count plan.third allowed.third in
    let all : 1 ≤ spread_number plan =
    one_times (member_spread plan plan.first * member_spread plan plan.second) (member_spread plan plan.third)
    (one_times (member_spread plan plan.first) (member_spread plan plan.second) (one_times _ _ a b) (one_times _ _ a c)) (one_times _ _ a d) in
    record {
      shared = a;
      first = b;
      second = c;
      third = d;
      spread = all;
      width = refl;
      least = le-mul_of_pos_right (work_number plan) (omega (arith, all));
    }
