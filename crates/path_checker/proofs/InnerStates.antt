-- Which states inner sequences begin with, and which they leave.
use Rattle.std.proofs.Common.{◌≡◌, ℕ, Bool, true, false, List, [], ◌∷◌, ◌++◌, refl, sym, ap, subst, inl, inr}
use Rattle.path_model.specs.Behaviour.{State}
use Rattle.path_checker.specs.Exploring.{In, Kept, Stopped}
use Rattle.path_checker.specs.Inner.{entered, all_entered, left, all_left, resumed, hardened, if_soft, if_hard, softly, hardly}
use Rattle.path_checker.proofs.Membership.{In-left, In-right, In-cases}

pub In-entered : (s : State) (c : ℕ) (soft : Bool) (k : Kept) (ks : List Kept) → In k ks → In (entered s c soft k) (all_entered s c soft ks)
In-entered s c soft k [] h = absurd h
In-entered s c soft k (x ∷ ks) (inl e) = inl (ap (entered s c soft) e)
In-entered s c soft k (x ∷ ks) (inr h) = inr (In-entered s c soft k ks h)

pub entered-from : (s : State) (c : ℕ) (soft : Bool) (to : Kept) (ks : List Kept) → In to (all_entered s c soft ks) → (k : Kept) × In k ks × (entered s c soft k ≡ to)
entered-from s c soft to [] h = absurd h
entered-from s c soft to (x ∷ ks) (inl e) = (x, inl refl, e)
entered-from s c soft to (x ∷ ks) (inr h) = let y = entered-from s c soft to ks h in (y.0, inr y.1, y.2)

pub In-all_left : (s : State) (k : Kept) (ks : List Kept) → In k ks → In (left s k) (all_left s ks)
In-all_left s k [] h = absurd h
In-all_left s k (x ∷ ks) (inl e) = inl (ap (left s) e)
In-all_left s k (x ∷ ks) (inr h) = inr (In-all_left s k ks h)

pub left-from : (s : State) (to : Kept) (ks : List Kept) → In to (all_left s ks) → (k : Kept) × In k ks × (left s k ≡ to)
left-from s to [] h = absurd h
left-from s to (x ∷ ks) (inl e) = (x, inl refl, e)
left-from s to (x ∷ ks) (inr h) = let y = left-from s to ks h in (y.0, inr y.1, y.2)

-- ---- failures, each of which gives some

module _ {B : Type 0} (pick : Stopped → List B) (all : List Stopped → List B) (none : all [] ≡ []) (step : (x : Stopped) (fs : List Stopped) → all (x ∷ fs) ≡ pick x ++ all fs) (to : B) where
  pub In-picked : (f : Stopped) → In to (pick f) → (fs : List Stopped) → In f fs → In to (all fs)
  In-picked f here [] h = absurd h
  In-picked f here (x ∷ fs) (inl p) = subst (In to) (sym (step x fs)) (In-left to (pick x) (all fs) (subst (λ (y : Stopped). In to (pick y)) (sym p) here))
  In-picked f here (x ∷ fs) (inr h) = subst (In to) (sym (step x fs)) (In-right to (pick x) (all fs) (In-picked f here fs h))

  pub picked-from : (fs : List Stopped) → In to (all fs) → (f : Stopped) × In f fs × In to (pick f)
  picked-from [] h = absurd (subst (In to) none h)
  picked-from (x ∷ fs) h =
      elim (In-cases to (pick x) (all fs) (subst (In to) (step x fs) h)) [
        | inl a ↦ (x, inl refl, a)
        | inr b ↦ let y = picked-from fs b in (y.0, inr y.1, y.2)
      ]

if_soft-in : (s : State) (f : Stopped) (b : Bool) → b ≡ true → In (resumed s f) (if_soft s f b)
if_soft-in s f true e = inl refl
if_soft-in s f false e = absurd cc

pub In-softly : (s : State) (f : Stopped) (fs : List Stopped) → In f fs → f.soft_failure ≡ true → In (resumed s f) (softly s fs)
In-softly s f fs h e = In-picked (λ x. if_soft s x x.soft_failure) (softly s) refl (λ x xs. refl) (resumed s f) f (if_soft-in s f f.soft_failure e) fs h

if_hard-in : (s : State) (f : Stopped) (b : Bool) → b ≡ false → In (hardened s f) (if_hard s f b)
if_hard-in s f true e = absurd cc
if_hard-in s f false e = inl refl

pub In-hardly : (s : State) (f : Stopped) (fs : List Stopped) → In f fs → f.soft_failure ≡ false → In (hardened s f) (hardly s fs)
In-hardly s f fs h e = In-picked (λ x. if_hard s x x.soft_failure) (hardly s) refl (λ x xs. refl) (hardened s f) f (if_hard-in s f f.soft_failure e) fs h

if_soft-from : (s : State) (f : Stopped) (b : Bool) (to : Kept) → In to (if_soft s f b) → (b ≡ true) × (resumed s f ≡ to)
if_soft-from s f true to (inl e) = (refl, e)
if_soft-from s f true to (inr n) = absurd n
if_soft-from s f false to h = absurd h

pub softly-from : (s : State) (fs : List Stopped) (to : Kept) → In to (softly s fs) → (f : Stopped) × In f fs × (f.soft_failure ≡ true) × (resumed s f ≡ to)
softly-from s fs to h =
    let y = picked-from (λ x. if_soft s x x.soft_failure) (softly s) refl (λ x xs. refl) to fs h in
    let z = if_soft-from s y.0 y.0.soft_failure to y.2 in (y.0, y.1, z.0, z.1)

if_hard-from : (s : State) (f : Stopped) (b : Bool) (to : Stopped) → In to (if_hard s f b) → (b ≡ false) × (hardened s f ≡ to)
if_hard-from s f true to h = absurd h
if_hard-from s f false to (inl e) = (refl, e)
if_hard-from s f false to (inr n) = absurd n

pub hardly-from : (s : State) (fs : List Stopped) (to : Stopped) → In to (hardly s fs) → (f : Stopped) × In f fs × (f.soft_failure ≡ false) × (hardened s f ≡ to)
hardly-from s fs to h =
    let y = picked-from (λ x. if_hard s x x.soft_failure) (hardly s) refl (λ x xs. refl) to fs h in
    let z = if_hard-from s y.0 y.0.soft_failure to y.2 in (y.0, y.1, z.0, z.1)
