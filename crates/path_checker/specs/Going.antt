-- When it is enough to judge what follows some states in order to judge what follows others.
use Rattle.std.specs.Prelude.{List}
use Rattle.path_model.specs.declared.event.Event.{Event}
use Rattle.path_checker.specs.declared.judge_plan.facts.Knowledge.{Knowledge}
use Rattle.path_checker.specs.Exploring.{Course, Kept, Uncovers}
use Rattle.path_checker.specs.Invoking.{Covers}

-- if each invoke after the states now is covered, so is each after the first states; an uncovered one after the states
-- now is one after the first states
pub record GoesOn (whole : Course) (from : List Kept) (rest : Course) (now : List Kept)
    : Type 0 where
  pub covers : Covers rest now → Covers whole from
  pub uncovers : (facts : List Knowledge) (events : List Event) → Uncovers rest now facts events
      → Uncovers whole from facts events

-- the same for a try each: what follows the states in its last branch, and those that an earlier branch completed
pub record GoesLast (whole : Course) (from : List Kept) (through after : Course)
    (last done : List Kept) : Type 0 where
  pub covers : Covers through last → Covers after done → Covers whole from
  pub uncovers : (facts : List Knowledge) (events : List Event) → Uncovers through last facts events
      → Uncovers whole from facts events
  pub uncovers_done : (facts : List Knowledge) (events : List Event)
      → Uncovers after done facts events → Uncovers whole from facts events
