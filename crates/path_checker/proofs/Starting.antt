-- One part of a procedure after another, and parts in which no invoke stands.
use Rattle.std.proofs.Common.{List, ◌++◌, sym, subst, inl, inr}
use Rattle.suit_commands.specs.Tree.{SequenceTree, PlanTree}
use Rattle.path_model.specs.Behaviour.{State, Done}
use Rattle.path_model.specs.Path.{start_state, RunsPlan}
use Rattle.path_model.specs.Following.{CoveredFrom}
use Rattle.path_model.proofs.Covering.{CoveredFrom-append}
use Rattle.path_model.proofs.Following.{CoveredFrom-same}
use Rattle.path_checker.specs.Exploring.{Course, Kept, Passes}
use Rattle.path_checker.specs.Invoking.{Invokes, Covers}
use Rattle.path_checker.specs.Procedures.{FromStart, FromThird, FromSecond, ThirdInvokes, SecondInvokes, FirstInvokes}
use Rattle.path_checker.proofs.Exploring.{then_course}
use Rattle.path_checker.proofs.Quiet.{IsSilent, runs_quiet, silent-then, Covers-silent}

pub Covers-then : (first second : Course) (from mid : List Kept) → Passes first from mid → Covers second mid → Covers (then_course first second) from
Covers-then first second from mid (f, a) later k i ids al es e (inl r) = (a.complete k i ids al es e r.1).0
Covers-then first second from mid (f, a) later k i ids al es e (inr r) =
    let x = a.complete k i ids al r.1 (Done r.0) r.4 in
    let to = x.1.0 in
    let y : CoveredFrom to.events r.2 = later to x.1.1 ids x.1.2 r.2 e (subst (λ (s : State). second ids s r.2 e) (sym x.1.3) r.5) in
    subst (CoveredFrom k.events) (sym r.3) (CoveredFrom-append k.events r.1 r.2 x.0 (CoveredFrom-same to.events (k.events ++ r.1) r.2 x.1.4 y))

-- ---- parts in which no invoke stands

abbrev part_course : SequenceTree → PlanTree → Course
part_course sequence plan = FromStart sequence plan.count

part_silent : (sequence : SequenceTree) (plan : PlanTree) → (Invokes sequence → ⊥) → IsSilent (part_course sequence plan)
part_silent sequence plan never ids s = runs_quiet sequence ids plan.count never (start_state s)

pub third_silent : (plan : PlanTree) → (ThirdInvokes plan → ⊥) → IsSilent (FromThird plan)
third_silent plan never = silent-then (part_course plan.shared plan) (part_course plan.third plan) (part_silent plan.shared plan (λ i. never (inl i))) (part_silent plan.third plan (λ i. never (inr i)))

pub second_silent : (plan : PlanTree) → (SecondInvokes plan → ⊥) → IsSilent (FromSecond plan)
second_silent plan never =
    silent-then (part_course plan.shared plan) (then_course (part_course plan.second plan) (FromThird plan)) (part_silent plan.shared plan (λ i. never (inr (inl i))))
    (silent-then (part_course plan.second plan) (FromThird plan) (part_silent plan.second plan (λ i. never (inl i))) (third_silent plan (λ i. never (inr i))))

first_silent : (plan : PlanTree) → (FirstInvokes plan → ⊥) → IsSilent (RunsPlan plan)
first_silent plan never =
    silent-then (part_course plan.shared plan) (then_course (part_course plan.first plan) (FromSecond plan)) (part_silent plan.shared plan (λ i. never (inr (inr (inl i)))))
    (silent-then (part_course plan.first plan) (FromSecond plan) (part_silent plan.first plan (λ i. never (inl i))) (second_silent plan (λ i. never (inr i))))

pub first_covers : (plan : PlanTree) (from : List Kept) → (FirstInvokes plan → ⊥) → Covers (RunsPlan plan) from
first_covers plan from never = Covers-silent (RunsPlan plan) from (first_silent plan never)
