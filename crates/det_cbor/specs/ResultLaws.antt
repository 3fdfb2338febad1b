-- Laws of chains of reading steps.
use Rattle.std.proofs.Common.{◌≡◌, ◌∙◌, sym, ap, Bool, true, false, cond, Result, Ok, Err, refl, inl, inr, ◌⊎◌}
use Rattle.det_cbor.specs.HeadReading.{◌>>=◌}

-- a conditional took one of its branches
pub chosen : {A : Type 0} (b : Bool) (x y z : A) → cond b x y ≡ z
    → ((b ≡ true) × (x ≡ z)) ⊎ ((b ≡ false) × (y ≡ z))
chosen true x y z e = inl (refl, e)
chosen false x y z e = inr (refl, e)

-- if a chain succeeds, so did its first step
pub bind_ok : {A B E P : Type 0} (r : Result A E) (f : A → Result B E) (y : B) → (r >>= f) ≡ Ok y
    → ((x : A) → r ≡ Ok x → f x ≡ Ok y → P) → P
bind_ok (Ok x) f y e then = then x refl e
bind_ok (Err s) f y e then = absurd cc

-- if a chain stops, it does so at its first step or later
pub bind_err : {A B E P : Type 0} (r : Result A E) (f : A → Result B E) (s : E) → (r >>= f) ≡ Err s
    → (r ≡ Err s → P) → ((x : A) → r ≡ Ok x → f x ≡ Err s → P) → P
bind_err (Ok x) f s e first later = later x refl e
bind_err (Err t) f s e first later = first cc

pub same_ok : {A E : Type 0} (x y : A) → ◌≡◌ {A = Result A E} (Ok x) (Ok y) → x ≡ y
same_ok x y e = cc

pub ok_pair : {A B E : Type 0} (a c : A) (b d : B) → ◌≡◌ {A = Result (A × B) E} (Ok (a, b)) (Ok (c, d)) → (a ≡ c) × (b ≡ d)
ok_pair {A} {B} a c b d e = let same = same_ok (a, b) (c, d) e in (ap (λ (x : A × B). x.0) same, ap (λ (x : A × B). x.1) same)

pub same_err : {A E : Type 0} (x y : E) → ◌≡◌ {A = Result A E} (Err x) (Err y) → x ≡ y
same_err x y e = cc

-- a result is not both a success and a refusal
pub not_both : {A E P : Type 0} (r : Result A E) (x : A) (s : E) → r ≡ Ok x → r ≡ Err s → P
not_both {A} {E} r x s e f = let never : ◌≡◌ {A = Result A E} (Ok x) (Err s) = sym e ∙ f in absurd cc
