use Rattle.std.proofs.Common.{◌≡◌, ◌-◌, length, take}
use Rattle.flash_layout.specs.PageReading.{parts_from}
use Rattle.flash_layout.proofs.Steps.{with_front}
use Rattle.flash_layout.proofs.spelled_places.are_parts.Given as goal

-- the parts so far are equal, and what is still to be read decides the answer
abbrev pub invariant-loop-part : goal.invariant-loop-part
invariant-loop-part l =
    with_front (take l.part-index l.parts) (parts_from (length l.parts - l.part-index) l.items)
    ≡ parts_from (length l.parts) l.fn.items
