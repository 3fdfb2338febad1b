-- A chain of stages goes one way: each stage gives one value, or declines in one way, and never both.
use Rattle.std.proofs.Common.{◌≡◌, subst}

-- what a chain comes to, as its start has it: a stage declines, or it gives a value and the others follow
pub data Behind {A R : Type 0} (good : A → Type 0) (bad : R → Type 0) (next : A → R → Type 0) (r : R) : Type 0 where
  Stops : bad r → Behind good bad next r
  Passes : (a : A) → good a → next a r → Behind good bad next r

-- a stage that goes one way
pub record HasOne {A R : Type 0} (good : A → Type 0) (bad : R → Type 0) : Type 0 where
  pub value : (x y : A) → good x → good y → y ≡ x
  pub refusal : (r q : R) → bad r → bad q → q ≡ r
  pub never : (x : A) (q : R) → good x → bad q → ⊥

module _ {A R : Type 0} (good : A → Type 0) (bad : R → Type 0) (next : A → R → Type 0) (one : HasOne good bad) where
  -- where it gives a value it is passed with that value
  pub passes : (x : A) (q : R) → good x → Behind good bad next q → next x q
  passes x q g (Stops d) = absurd (one.never x q g d)
  passes x q g (Passes y h rest) = subst (λ (z : A). next z q) (one.value x y g h) rest

  -- where it declines it has the last word
  pub stands : (r q : R) → bad r → Behind good bad next q → q ≡ r
  stands r q d (Stops e) = one.refusal r q d e
  stands r q d (Passes x g rest) = absurd (one.never x r g d)

-- so two chains over the same stages come to the same where all behind them do, by a relation that has all that are equal
pub one_way : {A R : Type 0} (good : A → Type 0) (bad : R → Type 0) (first second : A → R → Type 0) → HasOne good bad
    → (Same : R → R → Type 0) → ((r q : R) → q ≡ r → Same r q) → ((x : A) → good x → (r q : R) → first x r → second x q → Same r q)
    → (r q : R) → Behind good bad first r → Behind good bad second q → Same r q
one_way good bad first second one Same more rest r q (Stops d) later = more r q (stands good bad second one r q d later)
one_way good bad first second one Same more rest r q (Passes x g f) later = rest x g r q f (passes good bad second one x q g later)

-- and a chain comes to one
pub just_one : {A R : Type 0} (good : A → Type 0) (bad : R → Type 0) (next : A → R → Type 0) → HasOne good bad
    → ((x : A) → good x → (r q : R) → next x r → next x q → q ≡ r) → (r q : R) → Behind good bad next r → Behind good bad next q → q ≡ r
just_one good bad next one rest = one_way good bad next next one (λ r q. q ≡ r) (λ r q same. same) rest
