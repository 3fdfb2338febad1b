-- A layout of version 1, with the frame of version 2.
use Rattle.std.proofs.Common.{◌≡◌, ◌≤◌, ℕ, List, length, get_or, arith}
use Rattle.std.specs.List.{All}
use Rattle.flash_layout.specs.declared.frame.Frame.{Frame}
use Rattle.flash_layout.specs.declared.frame.TheConstants.{VERSION_1}
use Rattle.flash_layout.specs.declared.layout.Entry.{Entry}
use Rattle.flash_layout.specs.declared.layout.Memory.{Memory}
use Rattle.flash_layout.specs.declared.layout.Memory.TheVariants as memory
use Rattle.flash_layout.specs.FrameFacts.{by_second}
use Rattle.flash_layout.specs.Frames.{frame_size}
use Rattle.flash_layout.specs.Layouts.{IsBehindHead, IsEntry, IsLayout, IsOfMemory, slot_size, slot_starts}
use Rattle.flash_layout.specs.Overlaps.{AreClearOfBase, LiesClear}

slots_by : (size : ℕ) (e : Entry) (m : Memory) → IsOfMemory VERSION_1 size e m → e.slots ≤ 2
slots_by size e memory.Flash is = is.1
slots_by size e memory.Ram is = let one = is.0 in omega (arith, one)

pub slots_few : (size : ℕ) (layout : List Entry) → IsLayout VERSION_1 size layout → All (λ e. e.slots ≤ 2) layout
slots_few size layout is k d lt = let e = get_or layout k d in slots_by size e e.memory (is.each k d lt).held

lies : (frame : Frame) (size : ℕ) (e : Entry) → All (λ p. IsBehindHead VERSION_1 size p (slot_size e)) (slot_starts e) → LiesClear frame e → All (λ p. IsBehindHead frame size p (slot_size e)) (slot_starts e)
lies frame size e behind clear k d lt = let there = behind k d lt in (there.0, there.1, clear k d lt)

of_memory : (frame : Frame) (size : ℕ) (e : Entry) (m : Memory) → IsOfMemory VERSION_1 size e m → LiesClear frame e → IsOfMemory frame size e m
of_memory frame size e memory.Flash is clear = (is.0, is.1, is.2, is.3, lies frame size e is.4 clear)
of_memory frame size e memory.Ram is clear = is

pub moved_layout : (frame : Frame) (size : ℕ) (layout : List Entry) → frame.version ≡ 2 → IsLayout VERSION_1 size layout → AreClearOfBase frame layout → IsLayout frame size layout
moved_layout frame size layout two is clear = record {
  some = is.some;
  few = omega (arith, is.few, by_second frame 8 32 two);
  each = λ k d lt. let e = get_or layout k d in let w = is.each k d lt in record { short = w.short; some = w.some; held = of_memory frame size e e.memory w.held (clear k lt d) };
  apart = is.apart;
}
