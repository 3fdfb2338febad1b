-- A device at a moment, and the contents of a procedure's components, as a device of plays has them.
use Rattle.std.specs.Prelude.{◌≢◌, ◌<◌, ℕ, List, length, map, get_or}
use Rattle.suit_edge.specs.declared.launch.Launch.{Launch}
use Rattle.flash_layout.specs.Layouts.{AreClear}
use Rattle.flash_layout.specs.Slots.{extent_of}
use Rattle.flash_slots.specs.RamContents.{Held}
use Rattle.step_machine.specs.declared.spot.Spot.{Spot}
use Rattle.step_machine.specs.declared.spot.Spot.TheVariants as spots
use Rattle.step_machine.specs.declared.spot.Standing.{Standing}
use Rattle.step_machine.specs.Spots.{content_of}

-- the bytes that reads of its flash give, and its launches so far
pub record DeviceAt : Type 0 where
  pub reads : List ℕ
  pub launches : List Launch

abbrev pub device_at : List ℕ → List Launch → DeviceAt
device_at reads launches = record { reads = reads; launches = launches }

-- the content of each component
abbrev pub contents_of : List Standing → List Held → List ℕ → List (List ℕ)
contents_of standings ram reads = map (λ standing. content_of standing.spot ram reads) standings

-- the two contents share no byte
abbrev pub AreSpotsClear : Spot → Spot → Type 0
AreSpotsClear (spots.Flash one) (spots.Flash other) =
    AreClear one.start (extent_of one) other.start (extent_of other)
AreSpotsClear (spots.Ram one) (spots.Ram other) = other ≢ one
AreSpotsClear (spots.Flash one) (spots.Ram other) = Unit {0}
AreSpotsClear (spots.Ram one) (spots.Flash other) = Unit {0}

-- the content of this component shares no byte with any other
abbrev pub IsApart : List Standing → ℕ → Type 0
IsApart standings component =
    (other : ℕ) (d : Standing) → other < length standings → other ≢ component
    → AreSpotsClear (get_or standings component d).spot (get_or standings other d).spot
