-- Counts of faults. Each object of the outside world has one, which never falls.
use Rattle.std.specs.Prelude.{◌≡◌, ◌<◌, ◌≤◌, ◌-◌, ◌+◌, ◌^◌, ℕ, min}
use Rattle.suit_edge.specs.declared.edge.Edge.{Edge}
use Rattle.suit_edge.specs.declared.edge.Edge.TheVariants as edge

-- A fault was counted. The count saturates at the end of 64 bits, so it is said to rise only below that.
pub record Faulted (before now : ℕ) : Type 0 where
  pub later : before ≤ now
  pub rose : now < 2 ^ 64 - 1 → before < now

-- the count rises if the call fails, and stays otherwise
abbrev pub EdgeCounts : Edge → ℕ → ℕ → Type 0
EdgeCounts edge.Done before now = now ≡ before
EdgeCounts edge.Failed before now = Faulted before now

-- one more, saturating at the end of 64 bits
abbrev pub counted : ℕ → ℕ
counted n = min (n + 1) (2 ^ 64 - 1)
