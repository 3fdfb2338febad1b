-- A head that is read is spelled by the bytes it was read from, and a head that is spelled is read back.
use Rattle.std.proofs.Common.{◌≡◌, ℕ, zero, suc, ◌+◌, ◌*◌, ◌/◌, ◌%◌, ◌^◌, ◌<◌, false, eqb, List, [], ◌∷◌, ◌++◌, length, Result, Ok, Err, refl, sym, ap, subst, ◌∙◌, arith, inl, inr, Bor}
use Rattle.std.specs.Prelude.{IfOk}
use Rattle.std.proofs.lemmas.Bool.{eqb-true, eqb-false, ne_eqb}
use Rattle.std.proofs.lemmas.List.{length-append}
use Rattle.det_cbor.specs.declared.head.HeadKind.{HeadKind}
use Rattle.det_cbor.specs.declared.head.HeadKind.TheVariants as kinds
use Rattle.det_cbor.specs.declared.head.Head.{Head}
use Rattle.det_cbor.specs.declared.reason.Reason.{Reason}
use Rattle.det_cbor.specs.Heads.{head_bytes}
use Rattle.det_cbor.specs.HeadSpelling.{major_of, argument_of, spelled, IsValueOf, BeginsWith}
use Rattle.det_cbor.specs.HeadReading.{map_ok, kind_of_major, simple_value, head_at}
pub use Rattle.det_cbor.specs.ResultLaws.{chosen}
use Rattle.det_cbor.specs.ResultLaws.{bind_ok, ok_pair}
pub use Rattle.det_cbor.specs.ArgumentLaws.{IsBytes, all_bytes, head_length}
use Rattle.det_cbor.specs.ArgumentLaws.{head_small, argument_takes, argument_again}

-- ---- kinds

pub below_7 : (P : ℕ → Type 0) → P 0 → P 1 → P 2 → P 3 → P 4 → P 5 → P 6 → (n : ℕ) → n < 7 → P n
below_7 P p0 p1 p2 p3 p4 p5 p6 zero lt = p0
below_7 P p0 p1 p2 p3 p4 p5 p6 (suc zero) lt = p1
below_7 P p0 p1 p2 p3 p4 p5 p6 (suc (suc zero)) lt = p2
below_7 P p0 p1 p2 p3 p4 p5 p6 (suc (suc (suc zero))) lt = p3
below_7 P p0 p1 p2 p3 p4 p5 p6 (suc (suc (suc (suc zero)))) lt = p4
below_7 P p0 p1 p2 p3 p4 p5 p6 (suc (suc (suc (suc (suc zero))))) lt = p5
below_7 P p0 p1 p2 p3 p4 p5 p6 (suc (suc (suc (suc (suc (suc zero)))))) lt = p6
below_7 P p0 p1 p2 p3 p4 p5 p6 (suc (suc (suc (suc (suc (suc (suc n))))))) lt = absurd (omega arith)

-- the kind of a major type below 7 has that major type, and its values as arguments
pub record IsKindOf (major : ℕ) (kind : HeadKind) : Type 0 where
  pub is_major : major_of kind ≡ major
  pub argument : (value : ℕ) → argument_of kind value ≡ value
  pub fits : (value : ℕ) → value < 2 ^ 64 → IsValueOf kind value

pub kind_takes : (major : ℕ) → major < 7 → IsKindOf major (kind_of_major major)
kind_takes = below_7 (λ major. IsKindOf major (kind_of_major major)) (record { is_major = refl; argument = λ v. refl; fits = λ v lt. lt }) (record { is_major = refl; argument = λ v. refl; fits = λ v lt. lt }) (record { is_major = refl; argument = λ v. refl; fits = λ v lt. lt }) (record { is_major = refl; argument = λ v. refl; fits = λ v lt. lt }) (record { is_major = refl; argument = λ v. refl; fits = λ v lt. lt }) (record { is_major = refl; argument = λ v. refl; fits = λ v lt. lt }) (record { is_major = refl; argument = λ v. refl; fits = λ v lt. lt })

-- ---- simple values

pub simple_takes : (low : ℕ) (h : Head) → simple_value low ≡ Ok h → (major_of h.kind ≡ 7) × (argument_of h.kind h.value ≡ low) × (low < 24) × IsValueOf h.kind h.value
simple_takes low h e =
    elim (chosen (eqb low 20) _ _ _ e) [
      | inl (is, f) ↦ simple_is low 20 (record { kind = kinds.Bool; value = 0 }) h f (eqb-true _ _ is) (refl, refl, omega arith, omega arith)
      | inr (other, e) ↦ elim (chosen (eqb low 21) _ _ _ e) [
        | inl (is, f) ↦ simple_is low 21 (record { kind = kinds.Bool; value = 1 }) h f (eqb-true _ _ is) (refl, refl, omega arith, omega arith)
        | inr (other, e) ↦ elim (chosen (eqb low 22) _ _ _ e) [
          | inl (is, f) ↦ simple_is low 22 (record { kind = kinds.Null; value = 0 }) h f (eqb-true _ _ is) (refl, refl, omega arith, refl)
          | inr (other, e) ↦ elim (chosen (eqb low 31) _ _ _ e) [
            | inl (is, never) ↦ absurd cc
            | inr (other, never) ↦ absurd cc
          ]
        ]
      ]
    ]
  where
    simple_is : (low n : ℕ) (g h : Head) → ◌≡◌ {A = Result Head Reason} (Ok g) (Ok h) → low ≡ n → (major_of g.kind ≡ 7) × (argument_of g.kind g.value ≡ n) × (n < 24) × IsValueOf g.kind g.value → (major_of h.kind ≡ 7) × (argument_of h.kind h.value ≡ low) × (low < 24) × IsValueOf h.kind h.value
    simple_is low n g h e is fits =
        let same : g ≡ h = cc in
        subst (λ (k : Head). (major_of k.kind ≡ 7) × (argument_of k.kind k.value ≡ low) × (low < 24) × IsValueOf k.kind k.value) same
        (subst (λ (m : ℕ). (major_of g.kind ≡ 7) × (argument_of g.kind g.value ≡ m) × (m < 24) × IsValueOf g.kind g.value) (sym is) fits)

-- ---- heads

pub head_takes : (bytes : List ℕ) (h : Head) (rest : List ℕ) → IsBytes bytes → head_at bytes ≡ Ok (h, rest) → BeginsWith bytes h rest
unfolding head_at
head_takes [] h rest fits e = absurd cc
head_takes (first ∷ bytes) h rest fits e =
    let whole : first ≡ 32 * (first / 32) + first % 32 = omega arith in
    elim (chosen (eqb (first / 32) 7) _ _ _ e) [
      | inl (is, e) ↦ bind_ok _ _ _ e (λ g g-is e.
          let parts = ok_pair g h bytes rest e in
          let s = simple_takes (first % 32) g g-is in
          let major : first / 32 ≡ 7 = eqb-true _ _ is in
          let head : spelled g ≡ (32 * 7 + first % 32) ∷ [] = rw (s.0, s.1) (head_small 7 (first % 32) s.2) in
          let begins : BeginsWith (first ∷ bytes) g bytes = record { value = s.3; parts = ap (λ (b : ℕ). b ∷ bytes) (whole ∙ ap (λ (m : ℕ). 32 * m + first % 32) major) ∙ sym (ap (λ (l : List ℕ). l ++ bytes) head) } in
          subst (λ (r : List ℕ). BeginsWith (first ∷ bytes) h r) parts.1 (subst (λ (k : Head). BeginsWith (first ∷ bytes) k bytes) parts.0 begins))
      | inr (other, e) ↦ bind_ok _ _ _ e (λ x x-is e.
          let low : first < 256 = fits 0 in
          let not_7 : first / 32 ≡ 7 → ⊥ = eqb-false _ _ other in
          let major : first / 32 < 7 = omega arith in
          let k = kind_takes (first / 32) major in
          let a = argument_takes (first / 32) (first % 32) bytes x.0 x.1 (λ i. fits (suc i)) x-is in
          let read : Head = record { kind = kind_of_major (first / 32); value = x.0 } in
          let parts = ok_pair read h x.1 rest e in
          let head : head_bytes (first / 32) x.0 ≡ spelled read = rw (k.is_major, k.argument x.0) refl in
          let begins : BeginsWith (first ∷ bytes) read x.1 = record { value = k.fits x.0 a.1; parts = ap (λ (b : ℕ). b ∷ bytes) whole ∙ a.0 ∙ ap (λ (l : List ℕ). l ++ x.1) head } in
          subst (λ (r : List ℕ). BeginsWith (first ∷ bytes) h r) parts.1 (subst (λ (g : Head). BeginsWith (first ∷ bytes) g x.1) parts.0 begins))
    ]

-- a head of a major type below 7
pub plain_again : (kind : HeadKind) (value : ℕ) (rest : List ℕ) → major_of kind < 7 → kind_of_major (major_of kind) ≡ kind → value < 2 ^ 64 → head_at (head_bytes (major_of kind) value ++ rest) ≡ Ok (record { kind = kind; value = value }, rest)
unfolding head_at
plain_again kind value rest lt is fits =
    let r = argument_again (major_of kind) value rest fits in
    let r-low : r.low < 32 = r.low_fits in
    let high : (32 * major_of kind + r.low) / 32 ≡ major_of kind = omega arith in
    let low : (32 * major_of kind + r.low) % 32 ≡ r.low = omega arith in
    let other : eqb (major_of kind) 7 ≡ false = ne_eqb (major_of kind) 7 (omega arith) in
    ap head_at r.is ∙ rw (high, low, other, r.again, is) refl

pub head_again : (h : Head) (rest : List ℕ) → IsValueOf h.kind h.value → head_at (spelled h ++ rest) ≡ Ok (h, rest)
unfolding head_at
head_again h rest fits = by_kind h.kind h.value fits
  where
    simple : (kind : HeadKind) (value argument : ℕ) (rest : List ℕ) → argument < 24 → simple_value argument ≡ Ok (record { kind = kind; value = value }) → head_at (head_bytes 7 argument ++ rest) ≡ Ok (record { kind = kind; value = value }, rest)
    simple kind value argument rest lt is =
        let high : (32 * 7 + argument) / 32 ≡ 7 = omega arith in
        let low : (32 * 7 + argument) % 32 ≡ argument = omega arith in
        ap (λ (l : List ℕ). head_at (l ++ rest)) (head_small 7 argument lt) ∙ rw (high, low, is) refl

    truth : (value : ℕ) → value < 2 → head_at (head_bytes 7 (20 + value) ++ rest) ≡ Ok (record { kind = kinds.Bool; value = value }, rest)
    truth zero lt = simple kinds.Bool 0 20 rest (omega arith) refl
    truth (suc zero) lt = simple kinds.Bool 1 21 rest (omega arith) refl
    truth (suc (suc value)) lt = absurd (omega arith)

    by_kind : (kind : HeadKind) (value : ℕ) → IsValueOf kind value → head_at (head_bytes (major_of kind) (argument_of kind value) ++ rest) ≡ Ok (record { kind = kind; value = value }, rest)
    by_kind kinds.Unsigned value fits = plain_again kinds.Unsigned value rest (omega arith) refl fits
    by_kind kinds.Negative value fits = plain_again kinds.Negative value rest (omega arith) refl fits
    by_kind kinds.Bytes value fits = plain_again kinds.Bytes value rest (omega arith) refl fits
    by_kind kinds.Text value fits = plain_again kinds.Text value rest (omega arith) refl fits
    by_kind kinds.Array value fits = plain_again kinds.Array value rest (omega arith) refl fits
    by_kind kinds.Map value fits = plain_again kinds.Map value rest (omega arith) refl fits
    by_kind kinds.Tag value fits = plain_again kinds.Tag value rest (omega arith) refl fits
    by_kind kinds.Bool value fits = truth value fits
    by_kind kinds.Null value fits = subst (λ (v : ℕ). head_at (head_bytes 7 (22 + v) ++ rest) ≡ Ok (record { kind = kinds.Null; value = v }, rest)) (sym fits) (simple kinds.Null 0 22 rest (omega arith) refl)

-- ---- the answers of the reading function

pub found_begins : (bytes : List ℕ) (r : Result (Head × Bor (List ℕ)) Reason) → IsBytes bytes → map_ok (λ f. (f.0, f.1.now)) r ≡ head_at bytes → IfOk r (λ f. BeginsWith bytes f.0 f.1.now)
found_begins bytes (Ok f) fits e = head_takes bytes f.0 f.1.now fits (sym e)
found_begins bytes (Err reason) fits e = tt

pub found_length : (bytes : List ℕ) (r : Result (Head × Bor (List ℕ)) Reason) → IfOk r (λ f. BeginsWith bytes f.0 f.1.now) → IfOk r (λ f. length bytes ≡ length (spelled f.0) + length f.1.now)
found_length bytes (Ok f) begins = ap length begins.parts ∙ length-append (spelled f.0) f.1.now
found_length bytes (Err reason) begins = tt
