-- NOR flash in memory, and what its calls do.
use Rattle.std.specs.Prelude.{◌≡◌, ◌⊎◌, ◌≤◌, ◌+◌, ◌*◌, ◌%◌, ◌==◌, if◌then◌else◌, nat_le, ℕ, List, [], ◌∷◌, ◌++◌, length, take, drop, replicate, slice_range}
use Rattle.suit_edge.specs.Calls.{CallCounts, FailsByList, Succeeds}
use Rattle.suit_edge.specs.Faults.{Faulted, counted}
use Rattle.suit_edge.specs.Flash.{Flash}
use Rattle.suit_edge.specs.Ranges.{AreBytes, Outside, Range, SameOn, written}
use Rattle.suit_edge.specs.declared.edge.Edge.{Edge}
use Rattle.suit_edge.specs.declared.edge.Edge.TheVariants as edge
use Rattle.nor_flash.specs.Blocks.{ands}
use Rattle.nor_flash.specs.declared.step.Step.{Step}
use Rattle.nor_flash.specs.declared.step.Step.TheVariants as step

-- the number of blocks, the calls that changed the device since all its bytes were 0xFF, the number of
-- attempted erases, and the counts of calls
pub record NorState : Type 0 where
  pub blocks : ℕ
  pub steps : List Step
  pub erases : ℕ
  pub calls : CallCounts

-- ---- one step

-- the bytes, where each one with an even number is 0x55; the first one has the number i
unfoldable pub spoiled_from : ℕ → List ℕ → List ℕ
spoiled_from i [] = []
spoiled_from i (x ∷ xs) = (if i % 2 == 0 then 85 else x) ∷ spoiled_from (i + 1) xs

-- the bytes that a call leaves in its range if its number is in the list
abbrev pub spoiled : List ℕ → List ℕ
spoiled bytes = spoiled_from 0 bytes

-- the range that a step may change
abbrev pub range_of : Step → Range
range_of (step.Programmed p) = record { place = p.place; size = length p.bytes }
range_of (step.Erased block) = record { place = 4096 * block; size = 4096 }
range_of (step.Spoiled span) = record { place = span.place; size = span.size }

-- what a step makes of the bytes in its range
abbrev pub filled_by : Step → List ℕ → List ℕ
filled_by (step.Programmed p) old = ands old p.bytes
filled_by (step.Erased block) old = replicate 4096 255
filled_by (step.Spoiled span) old = spoiled old

-- the bytes once a step was taken in this range
abbrev pub with_range : List ℕ → Step → Range → List ℕ
with_range bytes s range =
    written bytes range.place (filled_by s (slice_range bytes range.place (range.place + range.size)))

-- the bytes after a step; one that does not fit changes nothing
unfoldable pub after_step : List ℕ → Step → List ℕ
after_step bytes s =
    if nat_le ((range_of s).place + (range_of s).size) (length bytes) then with_range bytes s (range_of s) else bytes

unfoldable pub after_steps : List ℕ → List Step → List ℕ
after_steps bytes [] = bytes
after_steps bytes (s ∷ steps) = after_steps (after_step bytes s) steps

-- what reads return after these steps, on `blocks` blocks that held only 0xFF
unfoldable pub nor_reads : ℕ → List Step → List ℕ
nor_reads blocks steps = after_steps (replicate (4096 * blocks) 255) steps

-- ---- power loss

-- A power loss leaves what is there, or any bytes in the range of the step that it interrupts.
abbrev pub IsLeft : List ℕ → List Step → List ℕ → Type 0
IsLeft reads [] image = image ≡ reads
IsLeft reads (s ∷ later) image =
    SameOn (Outside (range_of s).place (range_of s).size) reads image × AreBytes image

-- A power loss at some moment since t may leave the image. A moment is the number of steps before it; the
-- loss comes then, or during the next step.
pub record MayLeave (blocks : ℕ) (steps : List Step) (t : ℕ) (image : List ℕ) : Type 0 where
  pub moment : ℕ
  pub since : t ≤ moment
  pub past : moment ≤ length steps
  pub left : IsLeft (nor_reads blocks (take moment steps)) (drop moment steps) image

abbrev pub flash_of : ℕ → List Step → Flash
flash_of blocks steps =
    record {
      reads = nor_reads blocks steps;
      clock = length steps;
      may = MayLeave blocks steps;
    }

abbrev pub memory_nor : NorState → Flash
memory_nor s = flash_of s.blocks s.steps

-- ---- what a call does

-- the device stays, apart from its counts
pub record HoldsOn (before now : NorState) : Type 0 where
  pub blocks : now.blocks ≡ before.blocks
  pub steps : now.steps ≡ before.steps

-- one more step is taken
pub record TakesStep (before now : NorState) (s : Step) : Type 0 where
  pub blocks : now.blocks ≡ before.blocks
  pub steps : now.steps ≡ before.steps ++ s ∷ []

-- memory ran out, whether or not the call is in the list
pub record RunsOut (before now : CallCounts) : Type 0 where
  pub counts :
      now
      ≡
      record before {
        number = counted before.number;
        faults = counted before.faults;
        starved = counted before.starved;
      }
  pub faulted : Faulted before.faults now.faults
  pub rose : Faulted before.starved now.starved

-- a read gives the bytes there, or fails because of its number; either way it changes nothing else
abbrev pub ReadsExactly : Edge → NorState → NorState → ℕ → List ℕ → List ℕ → Type 0
ReadsExactly edge.Done before now place room filled =
    Succeeds before.calls now.calls × HoldsOn before now
    × (filled ≡ slice_range (memory_nor before).reads place (place + length room))
ReadsExactly edge.Failed before now place room filled =
    FailsByList before.calls now.calls × HoldsOn before now × (filled ≡ room)

-- the step that is taken instead if the call fails because of its number
abbrev pub spoiling : Step → Step
spoiling s = step.Spoiled (record { place = (range_of s).place; size = (range_of s).size })

-- A program or an erase takes its step. If its number is in the list it fails and spoils its range; if memory
-- runs out it fails and changes nothing.
abbrev pub StepsExactly : Edge → NorState → NorState → Step → Type 0
StepsExactly edge.Done before now s = Succeeds before.calls now.calls × TakesStep before now s
StepsExactly edge.Failed before now s =
    (FailsByList before.calls now.calls × TakesStep before now (spoiling s))
    ⊎ (RunsOut before.calls now.calls × HoldsOn before now)

abbrev pub program_of : ℕ → List ℕ → Step
program_of place bytes = step.Programmed (record { place = place; bytes = bytes })

-- ---- internals

-- the call that was counted last counts a fault
pub record Fails (before now : CallCounts) : Type 0 where
  pub counts : now ≡ record before { faults = counted before.faults }
  pub faulted : Faulted before.faults now.faults

pub record Starves (before now : CallCounts) : Type 0 where
  pub counts : now ≡ record before { faults = counted before.faults; starved = counted before.starved }
  pub faulted : Faulted before.faults now.faults
  pub rose : Faulted before.starved now.starved

-- the call fails, and takes this step if there is memory for it
abbrev pub Spoils : NorState → NorState → Step → Type 0
Spoils before now s = (Fails before.calls now.calls × TakesStep before now s) ⊎ (Starves before.calls now.calls × HoldsOn before now)

-- the device also keeps the result of its steps
pub record IsDevice (blocks : ℕ) (steps : List Step) (bytes : List ℕ) : Type 0 where
  pub five : 5 ≤ blocks
  pub reads : bytes ≡ nor_reads blocks steps
  pub size : length bytes ≡ 4096 * blocks
