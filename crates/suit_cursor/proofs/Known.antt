-- Reading steps that are known to succeed.
use Rattle.std.proofs.Common.{◌≡◌, ◌∙◌, Bool, true, false, cond, Result, Ok, Err, refl, sym, ap, subst}
use Rattle.std.specs.Prelude.{IsOk}
use Rattle.det_cbor.specs.HeadReading.{◌>>=◌, map_ok}
use Rattle.suit_params.specs.declared.refusal.Refusal.{Refusal}
use Rattle.suit_cursor.specs.LentParts.{read_or}

-- a success has a value
pub ok_is : {A E : Type 0} (r : Result A E) → IsOk r → (x : A) × (r ≡ Ok x)
ok_is (Ok x) ok = (x, refl)
ok_is (Err e) ok = absurd cc

-- if a chain succeeds, so does its first step
pub first_ok : {A B E : Type 0} (r : Result A E) (f : A → Result B E) → IsOk (r >>= f) → IsOk r
first_ok (Ok x) f ok = refl
first_ok (Err e) f ok = ok

-- and so does what follows it
pub then_ok : {A B E : Type 0} (r : Result A E) (f : A → Result B E) (x : A) → r ≡ Ok x → IsOk (r >>= f) → IsOk (f x)
then_ok {A} {B} {E} r f x e ok = subst (λ (s : Result A E). IsOk (s >>= f)) e ok

-- the answer of a call that is known to succeed
pub answers : {A B E : Type 0} (f : A → B) (r : Result A E) (known : Result B E) → map_ok f r ≡ known → IsOk known → IsOk r
answers f (Ok x) known e ok = refl
answers f (Err bad) known e ok = subst IsOk (sym e) ok

pub answer_is : {A B E : Type 0} (f : A → B) (r : Result A E) (known : Result B E) (x : A) → map_ok f r ≡ known → r ≡ Ok x → known ≡ Ok (f x)
answer_is f r known x e is = sym e ∙ ap (map_ok f) is

-- what is read by a step that succeeds
pub read_is : {A : Type 0} (other : A) (r : Result A Refusal) → IsOk r → r ≡ Ok (read_or other r)
read_is other (Ok x) ok = refl
read_is other (Err e) ok = absurd cc

-- a first step whose answer is not used
pub skipped : {A B E : Type 0} (r : Result A E) (s : Result B E) → IsOk (r >>= λ _. s) → (r >>= λ _. s) ≡ s
skipped (Ok x) s ok = refl
skipped (Err e) s ok = absurd cc

-- ---- tests that passed

pub not_refused : {A : Type 0} (b : Bool) (bad : Refusal) (r : Result A Refusal) → IsOk (cond b (Err bad) r) → cond b (Err bad) r ≡ r
not_refused true bad r ok = absurd cc
not_refused false bad r ok = refl

pub allowed : {A : Type 0} (b : Bool) (bad : Refusal) (r : Result A Refusal) → IsOk (cond b r (Err bad)) → cond b r (Err bad) ≡ r
allowed true bad r ok = refl
allowed false bad r ok = absurd cc
