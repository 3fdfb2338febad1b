-- Elements that are judged without being kept, and borrowed one by one.
use Rattle.std.proofs.Common.{◌≡◌, ◌∙◌, ℕ, zero, suc, ◌+◌, ◌-◌, ◌<◌, List, [], ◌∷◌, length, Result, Ok, Err, refl, sym, ap, arith}
use Rattle.std.specs.Prelude.{IsOk}
use Rattle.det_cbor.specs.HeadReading.{◌>>=◌, map_ok}
use Rattle.det_cbor.specs.Position.{Position}
use Rattle.suit_params.specs.declared.refusal.Refusal.{Refusal}
use Rattle.suit_params.specs.Reading.{inner_from}
use Rattle.suit_manifest.specs.Elements.{all_from}
use Rattle.suit_cursor.specs.LentParts.{read_or}
use Rattle.suit_cursor.proofs.Known.{ok_is, first_ok, then_ok}

-- whether reading succeeds
abbrev pub judged : {A : Type 0} → Result A Refusal → Result (Unit {0}) Refusal
judged r = map_ok (λ _. tt) r

one_judged : {A : Type 0} (a : A) (r : Result (List A) Refusal) → judged (r >>= λ rest. Ok (a ∷ rest)) ≡ judged r
one_judged a (Ok rest) = refl
one_judged a (Err e) = refl

went_well : {A : Type 0} (r : Result A Refusal) (u : Unit {0}) → Ok u ≡ judged r → (a : A) × (r ≡ Ok a)
went_well (Ok a) u e = (a, refl)
went_well (Err bad) u e = absurd cc

pub is_ok : {A : Type 0} (r : Result A Refusal) (u : Unit {0}) → Ok u ≡ judged r → IsOk r
is_ok (Ok a) u e = refl
is_ok (Err bad) u e = absurd cc

went_ill : {A : Type 0} (r : Result A Refusal) (e : Refusal) → Err e ≡ judged r → r ≡ Err e
went_ill (Ok a) e is = absurd cc
went_ill (Err bad) e is = cc

pub judged_step : {A : Type 0} (read : Position → Result A Refusal) (count done : ℕ) (at next inner : Position) (u : Unit {0}) (total : Result (Unit {0}) Refusal)
    → done < count → Ok (inner, next) ≡ inner_from at → Ok u ≡ judged (read inner)
    → judged (all_from read (count - done) at) ≡ total → judged (all_from read (count - (done + 1)) next) ≡ total
judged_step read count done at next inner u total lt item good so_far =
    let one : count - done ≡ suc (count - (done + 1)) = omega arith in
    let a = went_well (read inner) u good in
    let step : judged (all_from read (count - done) at) ≡ judged (all_from read (count - (done + 1)) next) =
    rw (one, ← item, a.1) (one_judged a.0 (all_from read (count - (done + 1)) next)) in
    sym step ∙ so_far

-- if reading one of the elements is refused, so is reading all of them
pub judged_ill : {A : Type 0} (read : Position → Result A Refusal) (count done : ℕ) (at next inner : Position) (total : Result (Unit {0}) Refusal) (e : Refusal)
    → done < count → Ok (inner, next) ≡ inner_from at → Err e ≡ judged (read inner)
    → judged (all_from read (count - done) at) ≡ total → Err e ≡ total
judged_ill read count done at next inner total e lt item bad so_far =
    let one : count - done ≡ suc (count - (done + 1)) = omega arith in
    let is = went_ill (read inner) e bad in
    let step : judged (all_from read (count - done) at) ≡ Err e = rw (one, ← item, is) refl in
    sym step ∙ so_far

-- ---- as many are borrowed as are read

grown : {A : Type 0} (a : A) (r : Result (List A) Refusal) → IsOk r → length (read_or [] (r >>= λ rest. Ok (a ∷ rest))) ≡ suc (length (read_or [] r))
grown a (Ok rest) ok = refl
grown a (Err bad) ok = absurd cc

abbrev others : {A : Type 0} → (Position → Result A Refusal) → ℕ → Position → A → Result (List A) Refusal
others read n p a = all_from read n p >>= λ rest. Ok (a ∷ rest)

abbrev one_then : {A : Type 0} → (Position → Result A Refusal) → ℕ → Position × Position → Result (List A) Refusal
one_then read n x = read x.0 >>= others read n x.1

pub record LendsOne {A : Type 0} (read : Position → Result A Refusal) (n : ℕ) (p : Position) : Type 0 where
  pub inner : Position
  pub next : Position
  pub item : inner_from p ≡ Ok (inner, next)
  pub one : A
  pub one_is : read inner ≡ Ok one
  pub rest : IsOk (all_from read n next)
  pub all_is : read_or [] (all_from read (suc n) p) ≡ one ∷ read_or [] (all_from read n next)

split : {A : Type 0} (a : A) (r : Result (List A) Refusal) → IsOk r → read_or [] (r >>= λ rest. Ok (a ∷ rest)) ≡ a ∷ read_or [] r
split a (Ok rest) ok = refl
split a (Err bad) ok = absurd cc

pub lends_one : {A : Type 0} (read : Position → Result A Refusal) (n : ℕ) (p : Position) → IsOk (all_from read (suc n) p) → LendsOne read n p
lends_one {A} read n p ok =
    let item = ok_is (inner_from p) (first_ok (inner_from p) (one_then read n) ok) in
    let behind = then_ok (inner_from p) (one_then read n) item.0 item.1 ok in
    let one = ok_is (read item.0.0) (first_ok (read item.0.0) (others read n item.0.1) behind) in
    let rest = first_ok (all_from read n item.0.1) (λ rest. Ok (one.0 ∷ rest)) (then_ok (read item.0.0) (others read n item.0.1) one.0 one.1 behind) in
    record {
      inner = item.0.0;
      next = item.0.1;
      item = item.1;
      one = one.0;
      one_is = one.1;
      rest = rest;
      all_is =
          ap (λ (r : Result (Position × Position) Refusal). read_or [] (r >>= one_then read n)) item.1
          ∙ ap (λ (r : Result A Refusal). read_or [] (r >>= others read n item.0.1)) one.1
          ∙ split one.0 (all_from read n item.0.1) rest;
    }

pub all_length : {A : Type 0} (read : Position → Result A Refusal) (n : ℕ) (p : Position) → IsOk (all_from read n p) → length (read_or [] (all_from read n p)) ≡ n
all_length read zero p ok = refl
all_length read (suc n) p ok =
    let one = lends_one read n p ok in
    ap length one.all_is ∙ ap suc (all_length read n one.next one.rest)
