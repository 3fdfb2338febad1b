use Rattle.std.proofs.Common.{◌≡◌, ◌++◌, take}
use Rattle.admission.proofs.lent_places.is_lent.Given as goal

-- those before are the same
abbrev pub invariant-loop-part : goal.invariant-loop-part
invariant-loop-part l = l.fn.lent ≡ take l.part-index l.identifier ++ l.lent
