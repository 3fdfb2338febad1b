use Rattle.std.proofs.Common.{◌≡◌, ℕ, ◌<◌, [], get_or}
use Rattle.flash_layout.specs.Placement.{HasPlace}
use Rattle.admission.proofs.lent_places.find_next.Given as goal

-- none before is the one, and nothing is taken
abbrev pub invariant-loop-i : goal.invariant-loop-i
invariant-loop-i l = ((k : ℕ) → k < l.i → HasPlace l.entries (get_or l.fn.ids 0 []) k → ⊥) × (l.ids ≡ l.fn.ids)
