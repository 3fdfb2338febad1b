-- The result of a part of a procedure in a world, as its play has it. Events are left out.
use Rattle.std.specs.Prelude.{◌≡◌, Result, Ok, Err}
use Rattle.path_model.specs.Behaviour.{State, Done, Condition}
use Rattle.path_model.specs.Plays.{Play}
use Rattle.step_machine.specs.declared.stop.Stop.{Stop}
use Rattle.step_machine.specs.declared.stop.Stop.TheVariants as stops
use Rattle.step_machine.specs.Directives.{StopsSo}

-- From this state and world the play is done, with the next state and world; or a condition, a directive or a fault
-- stops it, and leaves that world. The state after a stop is arbitrary.
abbrev pub Comes : {World : Type 0} → Play World → State → World → Result (Unit {0}) Stop → State → World
    → Type 0
Comes play state before (Ok _) next after =
    ((play.comes state before).ending ≡ Done next) × ((play.comes state before).world ≡ after)
Comes play state before (Err (stops.Condition place soft_failure)) next after =
    ((play.comes state before).ending ≡ Condition place soft_failure)
    × ((play.comes state before).world ≡ after)
Comes play state before (Err (stops.Directive place cause)) next after =
    StopsSo play place state before cause after
