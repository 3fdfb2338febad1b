-- The results of a copy and a swap for two components, as plays have them (draft-ietf-suit-manifest-25, section
-- 8.4.10).
use Rattle.std.specs.Prelude.{◌≡◌, ◌≢◌, ◌<◌, ℕ, List, Some, Result, length}
use Rattle.suit_params.specs.declared.param.ParamKey.TheVariants as keys
use Rattle.suit_params.specs.InForce.{in_force, number_of}
use Rattle.suit_commands.specs.declared.kinds.ActKind.TheVariants as acts
use Rattle.path_model.specs.declared.cause.Cause.{Cause}
use Rattle.path_model.specs.Behaviour.{State}
use Rattle.path_model.specs.Settings.{Setting, capacity_of}
use Rattle.path_model.specs.DevicePlays.{Device, content_at, with_content, directive_play}
use Rattle.flash_slots.specs.RamContents.{Held}
use Rattle.step_machine.specs.declared.spot.Spot.{Spot}
use Rattle.step_machine.specs.Areas.{OutsideLength, OutsideRoom}
use Rattle.step_machine.specs.Spots.{IsRamBut, IsSpot, OutsideSpot}
use Rattle.step_machine.specs.Devices.{AreSpotsClear}
use Rattle.step_machine.specs.Directives.{ActsSo}

-- this source is in force for the component
abbrev pub NamesSource : State → ℕ → ℕ → Type 0
NamesSource state component source =
    number_of (in_force state.parameters component keys.Source) ≡ Some source

-- if the two are different components, their contents share no byte
abbrev pub AreApart : ℕ → Spot → ℕ → Spot → Type 0
AreApart component spot source other = source ≢ component → AreSpotsClear spot other

-- the play of the copy has this result, in each setting and on each device where the component has this room, the
-- source has this content, and the component has one content before and the other after
abbrev pub CopiesAs : ℕ → ℕ → ℕ → List ℕ → List ℕ → List ℕ → Result (Unit {0}) Cause → Type 0
CopiesAs component capacity source content before after result =
    (setting : Setting) (place : ℕ) (state : State) (device : Device)
    → NamesSource state component source → capacity_of setting component ≡ capacity
    → content_at device source ≡ content → content_at device component ≡ before
    → component < length device.contents
    → ActsSo (directive_play setting acts.Copy place component) place state device result
    (with_content device component after)

-- ---- two contents that change

-- a component with its room, and its content before and after
pub record Side : Type 0 where
  pub component : ℕ
  pub capacity : ℕ
  pub before : List ℕ
  pub after : List ℕ

abbrev pub side_of : ℕ → ℕ → List ℕ → List ℕ → Side
side_of component capacity before after =
    record { component = component; capacity = capacity; before = before; after = after }

-- the play of the swap has this result, in each setting and on each device where both components have their room, and
-- their contents before and after
abbrev pub SwapsAs : Side → Side → Result (Unit {0}) Cause → Type 0
SwapsAs one other result =
    (setting : Setting) (place : ℕ) (state : State) (device : Device)
    → NamesSource state one.component other.component
    → capacity_of setting one.component ≡ one.capacity
    → capacity_of setting other.component ≡ other.capacity
    → content_at device one.component ≡ one.before
    → content_at device other.component ≡ other.before
    → one.component < length device.contents → other.component < length device.contents
    → ActsSo (directive_play setting acts.Swap place one.component) place state device result
    (with_content (with_content device one.component one.after) other.component other.after)

-- both contents are within the flash or working memory, and share no byte
pub record IsPair (size : ℕ) (ram : List Held) (a b : Spot) : Type 0 where
  pub one : IsSpot size ram a
  pub other : IsSpot size ram b
  pub clear : AreSpotsClear a b

-- the place is outside both slots
abbrev pub OutsideBoth : Spot → Spot → ℕ → Type 0
OutsideBoth one other i = OutsideSpot one i × OutsideSpot other i

-- the place is outside both rooms
abbrev pub OutsideRooms : Spot → Spot → ℕ → Type 0
OutsideRooms one other i = OutsideRoom one i × OutsideRoom other i

-- the place is outside both stored lengths
abbrev pub OutsideLengths : Spot → Spot → ℕ → Type 0
OutsideLengths one other i = OutsideLength one i × OutsideLength other i

-- working memory has changed in these two components at most
abbrev pub IsRamButBoth : Spot → Spot → List Held → List Held → Type 0
IsRamButBoth one other old new =
    (middle : List Held) × IsRamBut one old middle × IsRamBut other middle new
