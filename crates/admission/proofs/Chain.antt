-- Judgements one after the other: each is met, or stops the chain with a refusal.
use Rattle.std.proofs.Common.{◌≡◌, ◌⊎◌, inl, inr, subst}

-- whether all of it is met, and which refusals stop it
pub record Chain (R : Type 0) : Type 1 where
  pub goes : Type 0
  pub stops : R → Type 0

-- a refusal of one judgement
pub data Stops {R B : Type 0} (bad : B → Type 0) (tell : B → R) : R → Type 0 where
  Stopped : (b : B) → bad b → Stops bad tell (tell b)

abbrev pub first_then : {R A B : Type 0} → (A → Type 0) → (B → Type 0) → (B → R) → (A → Chain R) → Chain R
first_then {R} {A} met bad tell next = record {
  goes = (a : A) × met a × (next a).goes;
  stops = λ r. Stops bad tell r ⊎ ((a : A) × met a × (next a).stops r);
}

abbrev pub the_end : {R : Type 0} → Chain R
the_end = record { goes = Unit {0}; stops = λ r. ⊥ }

-- a judgement is met by one, or refused in one way
pub record IsJudgement {A B : Type 0} (met : A → Type 0) (bad : B → Type 0) (Same : B → B → Type 0) : Type 0 where
  pub same : (a b : A) → met a → met b → a ≡ b
  pub never : (a : A) (b : B) → met a → bad b → ⊥
  pub alike : (b c : B) → bad b → bad c → Same b c

pub record IsOne {R : Type 0} (Alike : R → R → Type 0) (chain : Chain R) : Type 0 where
  pub never : (r : R) → chain.goes → chain.stops r → ⊥
  pub alike : (r q : R) → chain.stops r → chain.stops q → Alike r q

pub end_one : {R : Type 0} (Alike : R → R → Type 0) → IsOne Alike the_end
end_one Alike = record { never = λ r goes stops. stops; alike = λ r q stops other. absurd stops }

module _ {R A B : Type 0} (Alike : R → R → Type 0) (met : A → Type 0) (bad : B → Type 0) (Same : B → B → Type 0) (tell : B → R) (next : A → Chain R) (is : IsJudgement met bad Same)
    (tells : (b c : B) → Same b c → Alike (tell b) (tell c)) (each : (a : A) → met a → IsOne Alike (next a)) where
  abbrev Whole : Chain R
  Whole = first_then met bad tell next

  here : (a b : A) (r : R) → met a → met b → (next b).stops r → (next a).stops r
  here a b r x y stops = subst (λ (c : A). (next c).stops r) (is.same b a y x) stops

  one_never : (r : R) → Whole.goes → Whole.stops r → ⊥
  one_never r goes (inl (Stopped b refuses)) = is.never goes.0 b goes.1 refuses
  one_never r goes (inr later) = (each goes.0 goes.1).never r goes.2 (here goes.0 later.0 r goes.1 later.1 later.2)

  one_alike : (r q : R) → Whole.stops r → Whole.stops q → Alike r q
  one_alike r q (inl (Stopped b x)) (inl (Stopped c y)) = tells b c (is.alike b c x y)
  one_alike r q (inl (Stopped b x)) (inr later) = absurd (is.never later.0 b later.1 x)
  one_alike r q (inr later) (inl (Stopped c y)) = absurd (is.never later.0 c later.1 y)
  one_alike r q (inr x) (inr y) = (each x.0 x.1).alike r q x.2 (here x.0 y.0 q x.1 y.1 y.2)

  pub one_then : IsOne Alike (first_then met bad tell next)
  one_then = record { never = one_never; alike = one_alike }
