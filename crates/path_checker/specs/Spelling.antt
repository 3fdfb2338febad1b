-- Where one path is after some commands.
use Rattle.std.specs.Prelude.{◌≡◌, true, false, List}
use Rattle.path_model.specs.Behaviour.{State, Done, Condition}
use Rattle.path_checker.specs.declared.judge_plan.turn.Turn.{Turn}
use Rattle.path_checker.specs.declared.judge_plan.turn.Turn.TheVariants as turns
use Rattle.path_checker.specs.Exploring.{Course, Kept, Stopped, Leads}
use Rattle.path_checker.specs.Inner.{resumed, hardened}

-- from one of these states a run may end in this failed condition
abbrev pub Fails : Course → List Kept → Stopped → Type 0
Fails course from stop =
    Leads course from stop.facts stop.events (Condition stop.place stop.soft_failure)

-- from one of these states a run may come to where this is
abbrev pub Comes : Course → List Kept → Turn → Type 0
Comes course from (turns.On to) = Leads course from to.facts to.events (Done to.state)
Comes course from (turns.Over stop) = Fails course from stop

-- what follows a failed condition of an inner sequence: a soft failure is passed over, and any other one fails the outer
-- sequence
abbrev pub IsAfter : State → Stopped → Turn → Type 0
IsAfter state stop (turns.On to) = (stop.soft_failure ≡ true) × (to ≡ resumed state stop)
IsAfter state stop (turns.Over over) = (stop.soft_failure ≡ false) × (over ≡ hardened state stop)
