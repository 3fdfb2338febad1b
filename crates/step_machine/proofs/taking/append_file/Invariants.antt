use Rattle.std.proofs.Common.{◌≡◌, ◌+◌, ◌++◌, [], length, IsTrue}
use Rattle.flash_layout.specs.Slots.{extent_of, slot_content}
use Rattle.flash_slots.specs.Contents.{IsEmptyInEach, IsEmptySlot, pieces_of}
use Rattle.suit_edge.specs.Flash.{Grows, Keeps, Passes}
use Rattle.suit_edge.specs.Ranges.{Outside}
use Rattle.step_machine.proofs.taking.append_file.Given as goal

-- the bytes put and those left to pull are the file
abbrev pub invariant-loop-count : goal.invariant-loop-count
invariant-loop-count g l =
    let h = g.H.Host in
    let d = g.D.Disk in
    let own = l.fn.writing.slot in
    record {
      size : d.extent l.disk ≡ d.extent l.fn.disk;
      host : h.faults l.host ≡ h.faults l.fn.host;
      flash : d.faults l.disk ≡ d.faults l.fn.disk;
      room : length l.room ≡ length l.fn.room;
      slot : l.writing.slot ≡ own;
      all : l.writing.written + l.left ≡ l.capacity;
      files : IsTrue h.told → h.file l.host ≡ h.file l.fn.host;
      asked : IsTrue h.told → h.asked l.host ≡ h.asked l.fn.host;
      pulled : IsTrue h.told → h.pulled l.host ≡ h.pulled l.fn.host + l.writing.written;
      taken : IsTrue h.told → length (h.rest l.fn.host) ≡ l.writing.written + length (h.rest l.host);
      parts : IsTrue d.told → IsTrue h.told → h.rest l.fn.host ≡ pieces_of own l.writing.written (d.flash l.disk).reads ++ h.rest l.host;
      empty : IsTrue d.told → slot_content own (d.flash l.fn.disk).reads ≡ [] → slot_content own (d.flash l.disk).reads ≡ [];
      still_empty : IsTrue d.told → IsEmptyInEach own (d.flash l.fn.disk) → Passes (d.flash l.fn.disk) (d.flash l.disk) (IsEmptySlot own);
      keeps : IsTrue d.told → Keeps (Outside own.start (extent_of own)) (d.flash l.fn.disk) (d.flash l.disk);
      grows : IsTrue d.told → Grows (d.flash l.fn.disk) (d.flash l.disk);
    }

abbrev pub decreases-loop-count : goal.decreases-loop-count
decreases-loop-count g l = l.left
