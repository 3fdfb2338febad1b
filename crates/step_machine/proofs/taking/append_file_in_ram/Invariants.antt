use Rattle.std.proofs.Common.{◌≡◌, ◌<◌, ◌+◌, ◌++◌, length, IsTrue}
use Rattle.flash_slots.specs.RamContents.{held_by, holding}
use Rattle.step_machine.proofs.taking.append_file_in_ram.Given as goal

-- the bytes held and those left to pull are the file
abbrev pub invariant-loop-count : goal.invariant-loop-count
invariant-loop-count g l =
    let h = g.H.Host in
    let held = held_by l.ram l.component in
    record {
      host : h.faults l.host ≡ h.faults l.fn.host;
      room : length l.room ≡ length l.fn.room;
      inside : l.component < length l.ram;
      capacity : held.capacity ≡ l.capacity;
      ram : l.ram ≡ holding l.fn.ram l.component held.content;
      all : length held.content + l.left ≡ l.capacity;
      files : IsTrue h.told → h.file l.host ≡ h.file l.fn.host;
      asked : IsTrue h.told → h.asked l.host ≡ h.asked l.fn.host;
      pulled : IsTrue h.told → h.pulled l.host ≡ h.pulled l.fn.host + length held.content;
      parts : IsTrue h.told → h.rest l.fn.host ≡ held.content ++ h.rest l.host;
    }

abbrev pub decreases-loop-count : goal.decreases-loop-count
decreases-loop-count g l = l.left
