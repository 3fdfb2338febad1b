-- Exactly one answer, of two kinds that never occur together.
use Rattle.std.specs.Prelude.{◌≡◌}

-- `this` holds of exactly one thing, and `that` of nothing
pub record HoldsOfOne {A B : Type 0} (this : A → Type 0) (that : B → Type 0) : Type 0 where
  pub one : A
  pub holds : this one
  pub only : (a : A) → this a → a ≡ one
  pub sound : (b : B) → that b → ⊥
