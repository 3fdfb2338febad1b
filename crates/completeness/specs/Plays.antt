-- How the play of a procedure ends, and what is left of it.
use Rattle.std.specs.Prelude.{◌≡◌, ℕ, List, ◌++◌, map}
use Rattle.suit_edge.specs.declared.launch.Launch.{Launch}
use Rattle.flash_slots.specs.RamContents.{Held}
use Rattle.path_model.specs.Behaviour.{State, Done}
use Rattle.path_model.specs.DevicePlays.{Device}
use Rattle.path_model.specs.Plays.{Outcome}
use Rattle.step_machine.specs.declared.spot.Standing.{Standing}
use Rattle.step_machine.specs.Devices.{contents_of}
use Rattle.step_machine.specs.Invoking.{launched_as}

-- all its commands were done
pub record Completes (outcome : Outcome Device) : Type 0 where
  pub state : State
  pub ending : outcome.ending ≡ Done state

-- The launches were those of the play; and as the flash reads in the end, with working memory left somehow, each component
-- has the content that the play leaves there.
pub record LeavesPlay (standings : List Standing) (outcome : Outcome Device)
    (launched now : List Launch) (after : List ℕ) : Type 0 where
  pub gained : List Launch
  pub added : now ≡ launched ++ gained
  pub launches : map launched_as gained ≡ outcome.world.launches
  pub ram : List Held
  pub contents : contents_of standings ram after ≡ outcome.world.contents
