-- What a command finds and leaves, at a moment.
use Rattle.suit_edge.specs.Flash.{Flash}
use Rattle.suit_cli.specs.Launching.{Launching}
use Rattle.suit_cli.specs.Outside.{Outside}

-- the outside and the launcher, as they tell of themselves
pub record Seen : Type 0 where
  pub outside : Outside
  pub launcher : Launching

abbrev pub seen : Outside → Launching → Seen
seen outside launcher = record { outside = outside; launcher = launcher }

-- the same, and what a power loss may leave of the flash
pub record Surroundings : Type 1 where
  pub outside : Outside
  pub launcher : Launching
  pub flash : Flash
