use Rattle.std.proofs.Common.{ℕ, ◌<◌}
use Rattle.suit_params.specs.Alike.{HaveOtherIds}
use Rattle.suit_params.proofs.alike.first_alike.Given as goal

abbrev pub invariant-loop-last : goal.invariant-loop-last
invariant-loop-last g l = (i j : ℕ) → i < j → j < l.last → HaveOtherIds g.T.Identified.id l.all i j
