use Rattle.std.proofs.Common.{◌≡◌, ℕ, ◌<◌}
use Rattle.suit_params.specs.Alike.{HaveOtherIds}
use Rattle.suit_params.proofs.alike.first_like.Given as goal

abbrev pub invariant-loop-i : goal.invariant-loop-i
invariant-loop-i g l = (l.all ≡ l.fn.all) × ((k : ℕ) → k < l.i → HaveOtherIds g.L.IdentifiedList.id_of (g.L.IdentifiedList.items l.all) k l.last)
