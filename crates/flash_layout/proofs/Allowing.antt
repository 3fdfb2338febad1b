-- The rules for layouts, step by step.
use Rattle.std.proofs.Common.{◌≡◌, ℕ, ◌≤◌, List, length, subst}
use Rattle.std.specs.List.{All, AllPairs}
use Rattle.flash_layout.specs.declared.frame.Frame.{Frame}
use Rattle.flash_layout.specs.declared.layout.Entry.{Entry}
use Rattle.flash_layout.specs.Layouts.{IsEntry, AreApart, IsLayout}
use Rattle.flash_layout.specs.Frames.{most}

pub layout_is : (frame : Frame) (size : ℕ) (entries layout : List Entry) → entries ≡ layout → 1 ≤ length entries → length entries ≤ most frame → All (IsEntry frame size) entries → AllPairs AreApart entries → IsLayout frame size layout
layout_is frame size entries layout same some few each apart = subst (IsLayout frame size) same (record { some = some; few = few; each = each; apart = apart })
