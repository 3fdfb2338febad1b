-- Laws of counts of faults.
use Rattle.std.specs.Prelude.{◌≡◌, ◌<◌, ◌≤◌, ◌-◌, ◌^◌, ℕ}
use Rattle.suit_edge.specs.declared.edge.Edge.TheVariants as edge
use Rattle.suit_edge.specs.Faults.{Faulted, EdgeCounts, counted}

pub record FaultLaws : Type 0 where
  -- a count does not fall, and a fault raises it unless it is at the end of 64 bits
  pub grows : (before now : ℕ) → Faulted before now → before ≤ now
  pub rises : (before now : ℕ) → Faulted before now → now < 2 ^ 64 - 1 → before < now
  pub counts : (before : ℕ) → before < 2 ^ 64 - 1 → Faulted before before → ⊥
  -- one more is a fault, and no count before or after takes it back
  pub one_more : (before : ℕ) → before ≤ 2 ^ 64 - 1 → Faulted before (counted before)
  pub later : (before now then : ℕ) → Faulted before now → now ≤ then → Faulted before then
  pub sooner : (before now then : ℕ) → before ≤ now → Faulted now then → Faulted before then
  -- a call that is done leaves the count, and one that fails raises it
  pub done : (before now : ℕ) → EdgeCounts edge.Done before now → now ≡ before
  pub failed : (before : ℕ) → before < 2 ^ 64 - 1 → EdgeCounts edge.Failed before before → ⊥
