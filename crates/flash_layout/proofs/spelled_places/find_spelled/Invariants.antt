use Rattle.std.proofs.Common.{◌≡◌, ℕ, ◌<◌, List, Ok}
use Rattle.flash_layout.specs.PageReading.{identifier_at}
use Rattle.flash_layout.specs.Placement.{HasPlace}
use Rattle.flash_layout.proofs.spelled_places.find_spelled.Given as goal

abbrev pub invariant-loop-i : goal.invariant-loop-i
invariant-loop-i l =
    (id : List (List ℕ)) → identifier_at l.bytes ≡ Ok id → (k : ℕ) → k < l.i
    → HasPlace l.entries id k → ⊥
