-- Whether a procedure is one of the grammar does not depend on places.
use Rattle.std.proofs.Common.{◌≤◌, ℕ, zero, suc, Bool, true, false, subst}
use Rattle.suit_commands.specs.Allowed.{AreBranches, AreCommands, AreTwo, IsCommand, IsMember, IsPlan, IsSequence, IsShared, levels_allowed}
use Rattle.suit_commands.specs.Tree.{CommandTree, SequenceTree, StepThen, BranchesTree, PlanTree}
use Rattle.place_laws.specs.Judging.{GrammarMoves}
use Rattle.place_laws.specs.PlacesApart.{unplaced_plan}
use Rattle.place_laws.proofs.Alike.{SequencesAlike, AlikeEnds, AlikeSteps, CommandsAlike, AlikeTest, AlikeAct, AlikeIndex, AlikeOverride, AlikeTries, AlikeRun, BranchesAlike, AlikeLast, AlikeNull, AlikeBranch}
use Rattle.place_laws.proofs.PlansAlike.{PlansAlike, plan_down, plan_up}

two_alike : (bs cs : BranchesTree) → BranchesAlike bs cs → AreTwo bs → AreTwo cs
two_alike bs cs AlikeLast two = two
two_alike bs cs (AlikeNull ds es more) two = absurd two
two_alike bs cs (AlikeBranch s t ds es one AlikeLast) two = absurd two
two_alike bs cs (AlikeBranch s t ds es one (AlikeNull fs gs more)) two = tt
two_alike bs cs (AlikeBranch s t ds es one (AlikeBranch u v fs gs other more)) two = tt

mutual
  sequence_alike : (shared : Bool) (count levels : ℕ) (s t : SequenceTree) → SequencesAlike s t → IsSequence shared count levels s → IsSequence shared count levels t
  sequence_alike shared count zero s t alike is = absurd is
  sequence_alike shared count (suc levels) s t AlikeEnds is = absurd is
  sequence_alike shared count (suc levels) s t (AlikeSteps p q c d r u one more) is =
      (command_alike shared count levels c d one is.0, commands_alike shared count levels r u more is.1)

  commands_alike : (shared : Bool) (count levels : ℕ) (s t : SequenceTree) → SequencesAlike s t → AreCommands shared count levels s → AreCommands shared count levels t
  commands_alike shared count levels s t AlikeEnds are = tt
  commands_alike shared count levels s t (AlikeSteps p q c d r u one more) are =
      (command_alike shared count levels c d one are.0, commands_alike shared count levels r u more are.1)

  command_alike : (shared : Bool) (count levels : ℕ) (c d : CommandTree) → CommandsAlike c d → IsCommand shared count levels c → IsCommand shared count levels d
  command_alike shared count levels c d (AlikeTest kind report) is = is
  command_alike shared count levels c d (AlikeAct kind report) is = is
  command_alike shared count levels c d (AlikeIndex selection) is = is
  command_alike shared count levels c d (AlikeOverride list) is = is
  command_alike shared count levels c d (AlikeTries bs cs more) is = (two_alike bs cs more is.0, branches_alike shared count levels bs cs more is.1)
  command_alike shared count levels c d (AlikeRun s t more) is = sequence_alike shared count levels s t more is

  branches_alike : (shared : Bool) (count levels : ℕ) (bs cs : BranchesTree) → BranchesAlike bs cs → AreBranches shared count levels bs → AreBranches shared count levels cs
  branches_alike shared count levels bs cs AlikeLast are = tt
  branches_alike shared count levels bs cs (AlikeNull ds es AlikeLast) are = tt
  branches_alike shared count levels bs cs (AlikeNull ds es (AlikeNull fs gs more)) are = absurd are
  branches_alike shared count levels bs cs (AlikeNull ds es (AlikeBranch s t fs gs one more)) are = absurd are
  branches_alike shared count levels bs cs (AlikeBranch s t ds es one more) are =
      (sequence_alike shared count levels s t one are.0, branches_alike shared count levels ds es more are.1)

-- ---- procedures

member_alike : (count : ℕ) (s t : SequenceTree) → SequencesAlike s t → IsMember count s → IsMember count t
member_alike count s t AlikeEnds is = tt
member_alike count s t (AlikeSteps p q c d r u one more) is = sequence_alike false count levels_allowed (StepThen p c r) (StepThen q d u) (AlikeSteps p q c d r u one more) is

shared_alike : (count : ℕ) (s t : SequenceTree) → SequencesAlike s t → IsShared count s → IsShared count t
shared_alike count s t AlikeEnds is = tt
shared_alike count s t (AlikeSteps p q c d r u one more) is = sequence_alike true count levels_allowed (StepThen p c r) (StepThen q d u) (AlikeSteps p q c d r u one more) is

-- of the same number of components
plan_alike : (a b : PlanTree) → PlansAlike a b → IsPlan a → IsPlan b
plan_alike a b alike is = record {
  some_components = subst (λ (n : ℕ). 1 ≤ n) alike.count is.some_components;
  few_components = subst (λ (n : ℕ). n ≤ 8) alike.count is.few_components;
  shared = subst (λ (n : ℕ). IsShared n b.shared) alike.count (shared_alike a.count a.shared b.shared alike.shared is.shared);
  first = subst (λ (n : ℕ). IsMember n b.first) alike.count (member_alike a.count a.first b.first alike.first is.first);
  second = subst (λ (n : ℕ). IsMember n b.second) alike.count (member_alike a.count a.second b.second alike.second is.second);
  third = subst (λ (n : ℕ). IsMember n b.third) alike.count (member_alike a.count a.third b.third alike.third is.third);
}

pub grammar_moves : GrammarMoves
grammar_moves a b same is =
    plan_alike (unplaced_plan b) b (plan_up b (unplaced_plan b) (plan_down b)) (subst IsPlan same (plan_alike a (unplaced_plan a) (plan_down a) is))
