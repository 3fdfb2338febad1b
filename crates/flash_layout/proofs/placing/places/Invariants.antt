use Rattle.std.proofs.Common.{◌≡◌, ℕ, ◌<◌, ◌≤◌, List, length, get_or}
use Rattle.flash_layout.specs.Placement.{HasPlace}
use Rattle.flash_layout.proofs.placing.places.Given as goal

-- the components so far have their places
abbrev pub invariant-loop-k : goal.invariant-loop-k
invariant-loop-k l = record {
  each : (j : ℕ) → j < l.k → (d : List (List ℕ)) → HasPlace l.entries (get_or l.ids j d) (get_or l.layout_index j 0);
  rest : (j : ℕ) → l.k ≤ j → get_or l.layout_index j 0 ≡ 0;
  long : length l.layout_index ≡ 8;
}
