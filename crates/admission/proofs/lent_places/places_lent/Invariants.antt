use Rattle.std.proofs.Common.{◌≡◌, ℕ, ◌≤◌, length, get_or, drop}
use Rattle.admission.proofs.LentIds.{ArePlaced}
use Rattle.admission.proofs.lent_places.places_lent.Given as goal

-- those before have their places, and the others are left
abbrev pub invariant-loop-k : goal.invariant-loop-k
invariant-loop-k l = record {
  left : l.ids ≡ drop l.k l.fn.ids;
  count : l.count ≡ length l.fn.ids;
  each : ArePlaced l.entries l.fn.ids l.layout_index l.k;
  rest : (j : ℕ) → l.k ≤ j → get_or l.layout_index j 0 ≡ 0;
  long : length l.layout_index ≡ 8;
}
