-- How many outcomes a trail has room for, as a procedure goes on.
use Rattle.std.proofs.Common.{◌≡◌, ◌≤◌, ◌<◌, ◌+◌, ◌*◌, ℕ, suc, Bool, true, false, List, [], ◌∷◌, ◌++◌, Option, Some, None, Result, Ok, Err, length, refl, sym, ap, subst, ◌∙◌, arith}
use Rattle.std.specs.Prelude.{IfSome, IsTrue}
use Rattle.std.proofs.lemmas.List.{length-append}
use Rattle.suit_commands.specs.Numbers.{branches_work, command_work, count_after, work_of, work_number}
use Rattle.suit_commands.specs.Selections.{selected_after}
use Rattle.suit_commands.specs.Tree.{CommandTree, Test, Act, Index, Override, TryEach, RunSequence, SequenceTree, StepThen, BranchesTree, BranchThen, PlanTree}
use Rattle.path_model.proofs.EventBounds.{length_after}
use Rattle.step_machine.specs.declared.stop.Stop.{Stop}
use Rattle.step_machine.specs.declared.stop.Stop.TheVariants as stops
use Rattle.step_machine.specs.declared.progress.Selected.{Selected}
use Rattle.step_machine.specs.Keeping.{outcome_of}
use Rattle.step_machine.specs.Parts.{passed_on}
use Rattle.step_machine.specs.Programs.{part_tree}
use Rattle.step_machine.specs.Running.{Moment, selected_list}
use Rattle.step_machine.specs.Stages.{HasRoom, IfGoesOn, Spends, Stage, TrailAt, stage}
use Rattle.step_machine.proofs.KeptSteps.{IsAsked, goes_on}
use Rattle.step_machine.proofs.Parting.{IsEach}

-- ---- room

room_less : (room : Option ℕ) (l k a b : ℕ) → k + a ≤ l + b → IfSome room (λ r. l + b ≤ r) → IfSome room (λ r. k + a ≤ r)
room_less None l k a b le has = tt
room_less (Some r) l k a b le has = omega (arith, le, has)

pub has_less : (s : Stage) (a b : ℕ) → a ≤ b → HasRoom s b → HasRoom s a
has_less s a b le has = record { fits = λ told. room_less s.trail.room (length s.trail.list) (length s.trail.list) a b (omega (arith, le)) (has.fits told) }

-- another trail with as much room
pub has_as : (s z : Stage) (a b : ℕ) → z.trail.told ≡ s.trail.told → z.trail.room ≡ s.trail.room → (IsTrue s.trail.told → length z.trail.list + a ≤ length s.trail.list + b) → HasRoom s b → HasRoom z a
has_as s z a b told room le has = record {
  fits = λ now.
      let before = subst IsTrue told now in
      subst (λ (o : Option ℕ). IfSome o (λ r. length z.trail.list + a ≤ r)) (sym room)
      (room_less s.trail.room (length s.trail.list) (length z.trail.list) a b (le before) (has.fits before));
}

pub some_room : (s : Stage) → HasRoom s 1 → IsTrue s.trail.told → IfSome s.trail.room (λ n. length s.trail.list < n)
some_room s has told = one_less s.trail.room (length s.trail.list) (has.fits told)
  where
    one_less : (room : Option ℕ) (l : ℕ) → IfSome room (λ r. l + 1 ≤ r) → IfSome room (λ n. l < n)
    one_less None l has = tt
    one_less (Some r) l has = omega (arith, has)

goes_less : (r : Result (Unit {0}) Stop) (P Q : Type 0) → (P → Q) → IfGoesOn r P → IfGoesOn r Q
goes_less (Ok u) P Q to p = to p
goes_less (Err (stops.Condition place soft)) P Q to p = to p
goes_less (Err (stops.Directive place cause)) P Q to p = tt

-- ---- from a stage to a later one

pub spends_none : (work : ℕ) (s : Stage) (r : Result (Unit {0}) Stop) → Spends work s r s
spends_none work s r = record { others = λ n has. goes_on r (HasRoom s n) (has_less s n (work + n) (omega arith) has) }

pub spends_as : (a b : ℕ) (s z : Stage) (r : Result (Unit {0}) Stop) → a ≡ b → Spends a s r z → Spends b s r z
spends_as a b s z r is spends = subst (λ (n : ℕ). Spends n s r z) is spends

-- room for what is left, where there was room for all
pub record Leaves (all left : ℕ) (m n : Stage) : Type 0 where
  pub others : (k : ℕ) → HasRoom m (all + k) → HasRoom n (left + k)

none_more : (n : ℕ) → n + 0 ≡ n
none_more n = omega arith

pub leaves_all : (all left : ℕ) (m : Stage) → left ≡ all → Leaves all left m m
leaves_all all left m same = record { others = λ k has. subst (λ (n : ℕ). HasRoom m (n + k)) (sym same) has }

module _ (all left here rest : ℕ) (m n : Stage) (goes : Leaves all left m n) (is : left ≡ here + rest) where
  at_next : (k : ℕ) → HasRoom m (all + k) → HasRoom n (here + (rest + k))
  at_next k has = subst (HasRoom n) (assoc left here rest k is) (goes.others k has)
    where
      assoc : (l a b c : ℕ) → l ≡ a + b → l + c ≡ a + (b + c)
      assoc l a b c same = omega (arith, same)

  pub room_next : HasRoom m all → HasRoom n here
  room_next has = has_less n here (here + (rest + 0)) (omega arith) (at_next 0 (subst (HasRoom m) (sym (none_more all)) has))

  pub leaves_next : (z : Stage) (u : Unit {0}) → Spends here n (Ok u) z → Leaves all rest m z
  leaves_next z u spends = record { others = λ k has. spends.others (rest + k) (at_next k has) }

  pub leaves_stopped : (z : Stage) (r : Result (Unit {0}) Stop) → Spends here n r z → Spends all m r z
  leaves_stopped z r spends = record { others = λ k has. goes_less r (HasRoom z (rest + k)) (HasRoom z k) (has_less z k (rest + k) (omega arith)) (spends.others (rest + k) (at_next k has)) }

pub leaves_done : (all left : ℕ) (m n : Stage) (r : Result (Unit {0}) Stop) → Leaves all left m n → Spends all m r n
leaves_done all left m n r goes = record { others = λ k has. goes_on r (HasRoom n k) (has_less n k (left + k) (omega arith) (goes.others k has)) }

-- ---- an outcome

longer : (list : List Bool) (b : Bool) → length (list ++ b ∷ []) ≡ length list + 1
longer list b = length-append list (b ∷ [])

-- one that was recalled
pub asked_spends : (m : Stage) (t : TrailAt) (b : Bool) (r : Result (Unit {0}) Stop) → IsAsked m.trail t (Some b) → Spends 1 m r (stage m.outside t)
asked_spends m t b r asked = record {
  others = λ n has.
      goes_on r (HasRoom (stage m.outside t) n)
      (has_as m (stage m.outside t) n (1 + n) asked.told asked.room (λ told. omega (arith, ap length (asked.list told), longer m.trail.list b)) has);
}

-- none was left
pub asked_room : (m : Stage) (t : TrailAt) (n : Moment) (a : ℕ) → IsAsked m.trail t None → HasRoom m a → HasRoom (stage n t) a
asked_room m t n a asked has = has_as m (stage n t) a a asked.told asked.room (λ told. omega (arith, ap length (asked.list told))) has

pub same_spends : (m : Stage) (n : Moment) (r : Result (Unit {0}) Stop) → Spends 1 m r (stage n m.trail)
same_spends m n r = record { others = λ k has. goes_on r (HasRoom (stage n m.trail) k) (has_as m (stage n m.trail) k (1 + k) refl refl (λ told. omega arith) has) }

pub free_spends : (m z : Stage) (t : TrailAt) (n : Moment) (r : Result (Unit {0}) Stop) → IsAsked m.trail t None → Spends 1 (stage n t) r z → Spends 1 m r z
free_spends m z t n r asked spends = record { others = λ k has. spends.others k (asked_room m t n (1 + k) asked has) }

-- one that was kept
pub kept_spends : (s z : Stage) (passed : Bool) (r : Result (Unit {0}) Stop) → z.trail.told ≡ s.trail.told → z.trail.room ≡ s.trail.room → (IsTrue s.trail.told → z.trail.list ≡ s.trail.list ++ passed ∷ []) → Spends 1 s r z
kept_spends s z passed r told room list = record {
  others = λ n has.
      goes_on r (HasRoom z n) (has_as s z n (1 + n) told room (λ t. omega (arith, ap length (list t), longer s.trail.list passed)) has);
}

pub unkept_spends : (s z : Stage) (ended : Result (Unit {0}) Stop) → outcome_of ended ≡ None → Spends 1 s ended z
unkept_spends s z (Ok u) none = absurd cc
unkept_spends s z (Err (stops.Condition place soft)) none = absurd cc
unkept_spends s z (Err (stops.Directive place cause)) none = record { others = λ n has. tt }

-- ---- commands

one_of : (n : ℕ) → 1 * n ≡ n
one_of n = omega arith

-- once for each selected component
pub each_work : (command : CommandTree) (count n : ℕ) → IsEach command → n * command_work command count 1 ≡ command_work command count n
each_work (Test kind report) count n each = omega arith
each_work (Act kind report) count n each = omega arith
each_work (Index selection) count n each = absurd each
each_work (Override list) count n each = omega arith
each_work (TryEach branches) count n each = ap (λ (k : ℕ). n * k) (one_of (1 + branches_work branches count))
each_work (RunSequence inner) count n each = ap (λ (k : ℕ). n * k) (one_of (1 + work_of inner count 1))

pub next_work : (left rest : List ℕ) (k work w : ℕ) → left ≡ k ∷ rest → w ≡ work → length left * work ≡ w + length rest * work
next_work left rest k work w is same = ap (λ (l : List ℕ). length l * work) is ∙ one_more (length rest) work ∙ ap (λ (n : ℕ). n + length rest * work) (sym same)
  where
    one_more : (n work : ℕ) → suc n * work ≡ work + n * work
    one_more n work = grind arith

pub same_left : (left now : Selected) (work : ℕ) → left ≡ now → length (selected_list left) * work ≡ length (selected_list now) * work
same_left left now work is = ap (λ (x : Selected). length (selected_list x) * work) is

-- the first step, and the others
pub step_work : (steps rest : SequenceTree) (command : CommandTree) (place count : ℕ) (before after : List ℕ) → steps ≡ StepThen place command rest → after ≡ selected_after command count before
    → work_of steps count (length before) ≡ command_work command count (length before) + work_of rest count (length after)
step_work steps rest command place count before after lends is =
    ap (λ (x : SequenceTree). work_of x count (length before)) lends
    ∙ ap (λ (n : ℕ). command_work command count (length before) + work_of rest count n) (sym (ap length is ∙ length_after command count before))

pub first_work : (steps rest : SequenceTree) (command : CommandTree) (place count : ℕ) (before : List ℕ) → steps ≡ StepThen place command rest
    → work_of steps count (length before) ≡ command_work command count (length before) + work_of rest count (count_after command count (length before))
first_work steps rest command place count before lends = ap (λ (x : SequenceTree). work_of x count (length before)) lends

-- the first branch, and the others
pub branch_work : (branches rest : BranchesTree) (inner : SequenceTree) (count n : ℕ) → branches ≡ BranchThen inner rest → n ≡ 1 → branches_work branches count ≡ work_of inner count n + branches_work rest count
branch_work branches rest inner count n is one =
    ap (λ (x : BranchesTree). branches_work x count) is ∙ ap (λ (k : ℕ). work_of inner count k + branches_work rest count) (sym one)

-- an inner sequence that failed softly, and one whose stop is passed on
pub softly_spends : (work : ℕ) (m z : Stage) (stop : Stop) (soft : Bool) → passed_on stop soft ≡ None → Spends work m (Err stop) z → Spends work m (Ok tt) z
softly_spends work m z (stops.Condition place true) soft e spends = record { others = λ n has. spends.others n has }
softly_spends work m z (stops.Condition place false) soft e spends = absurd cc
softly_spends work m z (stops.Directive place cause) soft e spends = absurd cc

-- ---- whole procedures

pub part_spends : (x : Option SequenceTree) (tree : SequenceTree) (count : ℕ) (m z : Stage) (r : Result (Unit {0}) Stop) → part_tree x ≡ tree → Spends (work_of (part_tree x) count 1) m r z → Spends (work_of tree count 1) m r z
part_spends x tree count m z r is spends = subst (λ (q : SequenceTree). Spends (work_of q count 1) m r z) is spends

pub part_room : (x : Option SequenceTree) (tree : SequenceTree) (count : ℕ) (m : Stage) → part_tree x ≡ tree → HasRoom m (work_of tree count 1) → HasRoom m (work_of (part_tree x) count 1)
part_room x tree count m is has = subst (λ (q : SequenceTree). HasRoom m (work_of q count 1)) (sym is) has

-- the work of the parts after the first so many
abbrev pub work_left_5 : PlanTree → ℕ
work_left_5 plan = work_of plan.third plan.count 1

abbrev pub work_left_4 : PlanTree → ℕ
work_left_4 plan = work_of plan.shared plan.count 1 + work_left_5 plan

abbrev pub work_left_3 : PlanTree → ℕ
work_left_3 plan = work_of plan.second plan.count 1 + work_left_4 plan

abbrev pub work_left_2 : PlanTree → ℕ
work_left_2 plan = work_of plan.shared plan.count 1 + work_left_3 plan

abbrev pub work_left_1 : PlanTree → ℕ
work_left_1 plan = work_of plan.first plan.count 1 + work_left_2 plan

pub all_work : (plan : PlanTree) → work_number plan ≡ work_of plan.shared plan.count 1 + work_left_1 plan
all_work plan = omega arith

pub last_work : (plan : PlanTree) → work_left_5 plan ≡ work_of plan.third plan.count 1 + 0
last_work plan = omega arith

pub lent_spends : (x y : Option SequenceTree) (count : ℕ) (m z : Stage) (r : Result (Unit {0}) Stop) → x ≡ y → Spends (work_of (part_tree y) count 1) m r z → Spends (work_of (part_tree x) count 1) m r z
lent_spends x y count m z r is spends = subst (λ (o : Option SequenceTree). Spends (work_of (part_tree o) count 1) m r z) (sym is) spends
