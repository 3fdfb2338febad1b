-- A disk over NOR flash.
use Rattle.std.specs.Prelude.{◌≡◌, ◌<◌, ◌≤◌, ◌⊎◌, ◌+◌, ◌-◌, ◌/◌, ℕ, Bool, IsTrue, List, Option, Some, None, length}
use Rattle.suit_edge.specs.Edge.{IfDone}
use Rattle.suit_edge.specs.Faults.{Faulted}
use Rattle.suit_edge.specs.Flash.{Flash, Grows, IsSame, Keeps, Passes}
use Rattle.suit_edge.specs.Ranges.{Outside, SameOn, written}
use Rattle.suit_edge.specs.declared.edge.Edge.{Edge}
use Rattle.nor_flash.specs.declared.phase.Phase.{Phase}
use Rattle.nor_flash.specs.declared.phase.Phase.TheVariants as phases
use Rattle.nor_flash.specs.Blocks.{IsErased, OutsideBlock, front, name_in, named, plain, with_block}

-- the number of blocks of the disk: all of the device's but the last four
abbrev pub blocks_of : ℕ → ℕ
blocks_of size = size / 4096 - 4

-- what the disk reads: once a rewrite is given up, its blocks as they are
abbrev pub seen : ℕ → Phase → List ℕ → List ℕ
seen m phases.Unsettled device = plain m device
seen m phases.Settled device = plain m device
seen m phases.GivenUp device = front m device
seen m (phases.Rewriting block) device = plain m device

-- a power loss leaves the disk on what it leaves of the device, or what the disk reads now
abbrev pub nor_flash : ℕ → Phase → Flash → Flash
nor_flash m phase device = record {
  reads = seen m phase device.reads;
  clock = device.clock;
  may = λ t image. ((left : List ℕ) × device.may t left × (image ≡ plain m left)) ⊎ ((t ≤ device.clock) × (image ≡ seen m phase device.reads));
}

-- the three names are erased
abbrev pub AreErased : ℕ → List ℕ → Type 0
AreErased m device = IsErased (m + 1) device × IsErased (m + 2) device × IsErased (m + 3) device

-- the names are as the phase says
abbrev pub HoldsPhase : ℕ → Phase → List ℕ → Type 0
HoldsPhase m phases.Unsettled device = Unit {0}
HoldsPhase m phases.Settled device = AreErased m device
HoldsPhase m phases.GivenUp device = Unit {0}
HoldsPhase m (phases.Rewriting block) device = named m device ≡ Some block

-- ---- internals

-- the image is what the disk reads, or the disk on this device
abbrev pub Shows : ℕ → Phase → List ℕ → List ℕ → Type 0
Shows m phase device image = (image ≡ seen m phase device) ⊎ (image ≡ plain m device)

-- with this left of the device, the disk is unchanged
pub record IsQuietAt (m : ℕ) (phase : Phase) (device : List ℕ) (left : List ℕ) : Type 0 where
  pub shows : Shows m phase device (plain m left)
  pub sees : seen m phase left ≡ seen m phase device
  pub holds : HoldsPhase m phase left

-- whatever is left in this block of the device, the disk is unchanged
abbrev pub IsQuiet : ℕ → Phase → List ℕ → ℕ → Type 0
IsQuiet m phase device block = (left : List ℕ) → SameOn (OutsideBlock block) device left → IsQuietAt m phase device left

-- the disk is unchanged, and the images of earlier moments remain possible
pub record IsSteady (m : ℕ) (before : Phase) (old : Flash) (phase : Phase) (new : Flash) : Type 0 where
  pub same : IsSame (nor_flash m before old) (nor_flash m phase new)
  pub grows : Grows (nor_flash m before old) (nor_flash m phase new)

-- the count stays if something was read, and rises otherwise
abbrev pub ReadCounts : {T : Type 0} → Option T → ℕ → ℕ → Type 0
ReadCounts (Some read) before now = now ≡ before
ReadCounts None before now = Faulted before now

-- the block that is being rewritten, if any, is one of the disk's
abbrev pub IsOfDisk : ℕ → Phase → Type 0
IsOfDisk m phases.Unsettled = Unit {0}
IsOfDisk m phases.Settled = Unit {0}
IsOfDisk m phases.GivenUp = Unit {0}
IsOfDisk m (phases.Rewriting block) = block < m

-- what the phase says is so, as far as the device is told
abbrev pub Knows : Bool → ℕ → Phase → List ℕ → Type 0
Knows told m phase device = IsOfDisk m phase × (IsTrue told → HoldsPhase m phase device)

-- the names can be erased: a rewrite was given up, or nothing is known and no block is named
abbrev pub CanClear : ℕ → Phase → List ℕ → Type 0
CanClear m phase device = (phase ≡ phases.GivenUp) ⊎ ((phase ≡ phases.Unsettled) × (named m device ≡ None))

-- the two names that are erased first, in either order
abbrev pub AreFirstNames : ℕ → ℕ → Type 0
AreFirstNames first second = ((first ≡ 1) × (second ≡ 2)) ⊎ ((first ≡ 2) × (second ≡ 1))

abbrev pub IsOneOf : List ℕ → List ℕ → List ℕ → Type 0
IsOneOf old new image = (image ≡ old) ⊎ (image ≡ new)

-- each image is what the disk read before, or this one
pub record IsReplaced (old new : Flash) (with : List ℕ) : Type 0 where
  pub images : Passes old new (IsOneOf old.reads with)
  pub grows : Grows old new

-- the same for the disk on a device; in the new image this block has the bytes of the image block
abbrev pub IsCommit : ℕ → ℕ → Flash → Phase → Flash → Type 0
IsCommit m block old phase new = IsReplaced (nor_flash m phases.GivenUp old) (nor_flash m phase new) (with_block m block old.reads)

-- the first two names are set to the block, and the last one is erased
pub record IsPrepared (m block : ℕ) (device : List ℕ) : Type 0 where
  pub first : name_in (m + 1) device ≡ block
  pub second : name_in (m + 2) device ≡ block
  pub third : IsErased (m + 3) device

-- If the call was done, these bytes are written from the place on. In any case all other places keep what they
-- read, and so does each image of a power loss since; and the images of earlier moments remain possible.
pub record Writes (answer : Edge) (place : ℕ) (bytes : List ℕ) (old new : Flash) : Type 0 where
  pub written : IfDone answer (new.reads ≡ written old.reads place bytes)
  pub keeps : Keeps (Outside place (length bytes)) old new
  pub grows : Grows old new
