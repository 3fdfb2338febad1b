-- A read of a record's bank.
use Rattle.std.proofs.Common.{◌≡◌, ◌<◌, ◌≤◌, ℕ, ◌+◌, List, sym, ◌∙◌, ap}
use Rattle.std.specs.List.{slice_range}
use Rattle.suit_edge.specs.declared.edge.Edge.{Edge}
use Rattle.suit_edge.specs.declared.edge.Edge.TheVariants as edges
use Rattle.suit_edge.specs.Edge.{IfDone}
use Rattle.flash_layout.specs.declared.frame.Frame.{Frame}
use Rattle.flash_layout.specs.declared.slot.Record.{Record}
use Rattle.flash_layout.specs.FrameFacts.{FrameFacts, bank_there}
use Rattle.flash_layout.specs.Frames.{bank_place, bank_size}
use Rattle.invoke_proc.specs.Banks.{bank_in}

pub bank_read : (size : ℕ) (frame : Frame) → FrameFacts size frame → (reads : List ℕ) (r : Record) (place n : ℕ) → r.bank < 2 → r.length ≤ bank_size frame → place ≡ bank_place frame r.bank → n ≡ r.length
    → slice_range reads place (place + n) ≡ bank_in frame reads r
bank_read size frame is reads r place n two short at long =
    ap (λ (m : ℕ). slice_range reads place (place + m)) long ∙ ap (λ (p : ℕ). slice_range reads p (p + r.length)) at ∙ sym (bank_there size frame is reads r.bank r.length two short)

-- where a call is done, what follows of what it did
pub if_done : (edge : Edge) (P Q : Type 0) → (P → Q) → IfDone edge P → IfDone edge Q
if_done edges.Done P Q to p = to p
if_done edges.Failed P Q to p = tt
