-- Premises of completeness, and the ways in which a run ends that meets its needs.
use Rattle.std.specs.Prelude.{◌≡◌, ◌⊎◌, ℕ, IsTrue, ◌++◌}
use Rattle.suit_edge.specs.Faults.{Faulted}
use Rattle.suit_cli.specs.Texts.{out_of_memory_line}
use Rattle.suit_cli.specs.Outside.{Outside, Sunk}
use Rattle.suit_cli.specs.Statuses.{sink_fault_status}
use Rattle.suit_cli.specs.Launching.{Launching}
use Rattle.suit_cli.specs.Coming.{Ended, ended_status, ended_text}

-- host, flash and launcher tell what they hold
pub record AreTold (launched : Launching) (before : Outside) : Type 0 where
  pub host : IsTrue before.told
  pub flash : IsTrue before.flash.told
  pub launcher : IsTrue launched.told

-- none of them counted a fault
pub record IsFaultless (launched now : Launching) (before after : Outside) : Type 0 where
  pub host : Faulted before.faults after.faults → ⊥
  pub flash : Faulted before.flash.faults after.flash.faults → ⊥
  pub launcher : Faulted launched.faults now.faults → ⊥

-- memory ran out, and nothing was launched or stored
pub record LacksMemory (launched now : Launching) (before after : Outside) (ended : Ended)
    : Type 0 where
  pub status : ended_status ended ≡ 11
  pub line : ended_text ended ≡ out_of_memory_line
  pub launches : now.launches ≡ launched.launches
  pub files : after.files ≡ before.files

-- and the flash reads as before
pub record LeavesFlash (launched now : Launching) (before after : Outside) (ended : Ended)
    : Type 0 where
  pub lacks : LacksMemory launched now before after ended
  pub reads : after.flash.reads ≡ before.flash.reads

-- The lines of what it came to are put, with status 0 where it was done and 11 where memory ran out; or the sink
-- counted a fault, and the status is 9, whichever of the two it was.
pub data EndsWell (IsDone Lacks : Ended → Type 0) (before after : Sunk) (result : ℕ) : Type 0 where
  EndsDone : (ended : Ended) → IsDone ended → result ≡ 0
      → (IsTrue before.told → after.put ≡ before.put ++ ended_text ended)
      → EndsWell IsDone Lacks before after result
  EndsStarved : (ended : Ended) → Lacks ended → result ≡ 11
      → (IsTrue before.told → after.put ≡ before.put ++ ended_text ended)
      → EndsWell IsDone Lacks before after result
  EndsCutOff : (ended : Ended) → IsDone ended ⊎ Lacks ended → result ≡ sink_fault_status
      → Faulted before.faults after.faults
      → EndsWell IsDone Lacks before after result

-- it was done, and its lines are put whole
pub record PutsDone (IsDone : Ended → Type 0) (before after : Sunk) : Type 0 where
  pub ended : Ended
  pub done : IsDone ended
  pub puts : IsTrue before.told → after.put ≡ before.put ++ ended_text ended
