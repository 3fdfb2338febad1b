use Rattle.std.proofs.Common.{ℕ, List, subst, arith}
use Rattle.suit_manifest.specs.Components.{AreApart, AreAlike}
use Rattle.author.specs.Faults.{Many, Alike}
use Rattle.author.proofs.Alike.{apart, alike}
use Rattle.author.proofs.describing.judge_components.Goals as goal

pub returns-then-len-gt8 : goal.returns-then-len-gt8
returns-then-len-gt8 c = rw c.len-then-len-gt8.ensures (Many (omega arith))

pub returns-in-Some : goal.returns-in-Some
returns-in-Some c =
    Alike c.in-Some.first c.in-Some.second (omega arith)
    (subst (λ (ids : List (List (List ℕ))). AreAlike ids c.in-Some.first c.in-Some.second) c.as_slice.ensures (alike _ _ _ c.in-Some.ensures))

pub returns-in-None : goal.returns-in-None
returns-in-None c = record { few = omega arith; apart = subst AreApart c.as_slice.ensures (apart _ c.in-None.ensures) }
