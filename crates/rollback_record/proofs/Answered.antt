-- The answer of a call on the flash, as a result.
use Rattle.std.proofs.Common.{◌≡◌, ℕ, Result, Ok, Err, OnOk, OnErr, subst}
use Rattle.suit_edge.specs.declared.edge.Edge.{Edge}
use Rattle.suit_edge.specs.declared.edge.Edge.TheVariants as edge
use Rattle.suit_edge.specs.Edge.{IfDone}
use Rattle.suit_edge.specs.Faults.{EdgeCounts}
use Rattle.flash_layout.specs.declared.slot.FlashFault.{FlashFault}
use Rattle.flash_layout.specs.FaultCounts.{ResultCounts}

pub on_done : (r : Result (Unit {0}) FlashFault) (e : Edge) (P : Type 0) → OnOk r (e ≡ edge.Done) → IfDone e P → OnOk r P
on_done (Ok u) e P is holds = subst (λ (x : Edge). IfDone x P) is holds
on_done (Err f) e P is holds = tt

pub counts_so : (r : Result (Unit {0}) FlashFault) (e : Edge) (before now : ℕ) → OnOk r (e ≡ edge.Done) → OnErr r (e ≡ edge.Failed) → EdgeCounts e before now → ResultCounts r before now
counts_so (Ok u) e before now done failed counts = subst (λ (x : Edge). EdgeCounts x before now) done counts
counts_so (Err f) e before now done failed counts = subst (λ (x : Edge). EdgeCounts x before now) failed counts

pub both_done : (e : Edge) (P Q R : Type 0) → IfDone e P → IfDone e Q → (P → Q → R) → IfDone e R
both_done edge.Done P Q R one other then = then one other
both_done edge.Failed P Q R one other then = tt
