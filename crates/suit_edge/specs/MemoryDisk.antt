-- A disk in memory, and what its calls do.
use Rattle.std.specs.Prelude.{◌≡◌, ◌≤◌, ◌+◌, ℕ, List, [], ◌∷◌, ◌++◌, length, take, drop, slice_range}
use Rattle.suit_edge.specs.declared.edge.Edge.{Edge}
use Rattle.suit_edge.specs.declared.edge.Edge.TheVariants as edge
use Rattle.suit_edge.specs.declared.step.Write.{Write}
use Rattle.suit_edge.specs.declared.step.Step.{Step}
use Rattle.suit_edge.specs.declared.step.Step.TheVariants as step
use Rattle.suit_edge.specs.Calls.{CallCounts, Succeeds, FailsByList, CallFails}
use Rattle.suit_edge.specs.Flash.{Flash}
use Rattle.suit_edge.specs.Moment.{Moment, moment_of, IsImage}

-- the bytes at the start, the writes and syncs that were done, and the counts of calls
pub record DiskState : Type 0 where
  pub first : List ℕ
  pub steps : List Step
  pub calls : CallCounts

-- the disk after all its steps
abbrev pub moment_now : DiskState → Moment
moment_now s = moment_of s.first s.steps

-- A power loss at some moment since t may leave the image. A moment is the number of steps before it.
pub record MayLeave (first : List ℕ) (steps : List Step) (t : ℕ) (image : List ℕ) : Type 0 where
  pub moment : ℕ
  pub since : t ≤ moment
  pub past : moment ≤ length steps
  pub left : IsImage (moment_of first (take moment steps)) image

abbrev pub flash_of : List ℕ → List Step → Flash
flash_of first steps =
    record {
      reads = (moment_of first steps).reads;
      clock = length steps;
      may = MayLeave first steps;
    }

abbrev pub memory_flash : DiskState → Flash
memory_flash s = flash_of s.first s.steps

-- ---- what a call does

-- the content stays
pub record HoldsOn (before now : DiskState) : Type 0 where
  pub first : now.first ≡ before.first
  pub steps : now.steps ≡ before.steps

-- one more step is taken
pub record TakesStep (before now : DiskState) (s : Step) : Type 0 where
  pub first : now.first ≡ before.first
  pub steps : now.steps ≡ before.steps ++ s ∷ []

-- a read gives the bytes there, or fails because of its number; either way it changes nothing else
abbrev pub ReadsExactly : Edge → DiskState → DiskState → ℕ → List ℕ → List ℕ → Type 0
ReadsExactly edge.Done before now place room filled =
    Succeeds before.calls now.calls × HoldsOn before now
    × (filled ≡ slice_range (moment_now before).reads place (place + length room))
ReadsExactly edge.Failed before now place room filled =
    FailsByList before.calls now.calls × HoldsOn before now × (filled ≡ room)

-- a write or a sync takes its step, or fails and changes nothing but the counts
abbrev pub StepsExactly : Edge → DiskState → DiskState → Step → Type 0
StepsExactly edge.Done before now s = Succeeds before.calls now.calls × TakesStep before now s
StepsExactly edge.Failed before now s = CallFails before.calls now.calls × HoldsOn before now

abbrev pub write_of : ℕ → List ℕ → Step
write_of place bytes = step.Wrote (record { place = place; bytes = bytes })

-- ---- representation

-- the writes among these steps
abbrev pub writes_of : List Step → List Write
writes_of [] = []
writes_of (step.Wrote w ∷ steps) = w ∷ writes_of steps
writes_of (step.Synced ∷ steps) = writes_of steps

-- the disk also keeps the result of its steps; those from `since` on are pending
pub record IsMoment (first : List ℕ) (steps : List Step) (sure bytes : List ℕ) (since : ℕ)
    : Type 0 where
  pub settled : sure ≡ (moment_of first steps).settled
  pub reads : bytes ≡ (moment_of first steps).reads
  pub settled_size : length sure ≡ length first
  pub size : length bytes ≡ length first
  pub within : since ≤ length steps
  pub pending : writes_of (drop since steps) ≡ (moment_of first steps).pending
