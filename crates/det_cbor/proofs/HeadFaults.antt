-- A head that is refused is bad.
use Rattle.std.proofs.Common.{◌≡◌, ℕ, suc, ◌+◌, ◌*◌, ◌/◌, ◌%◌, ◌^◌, ◌<◌, ◌≤◌, ltb, eqb, List, [], ◌∷◌, ◌++◌, length, take, drop, Err, sym, ap, subst, ◌∙◌, arith, inl, inr}
use Rattle.std.specs.Int.{byte_len, from_be_bytes, to_be_bytes}
use Rattle.std.proofs.lemmas.Bool.{cases_lt, ltb-false, ltb-true, eqb-true, eqb-false}
use Rattle.std.proofs.lemmas.List.{take-append-drop, length-take}
use Rattle.det_cbor.specs.declared.reason.Reason.{Reason}
use Rattle.det_cbor.specs.declared.reason.Reason.TheVariants.{Truncated, Indefinite, Kind, NotShortest}
use Rattle.det_cbor.specs.HeadReading.{number_at, argument_at, simple_value, head_at, place_in}
use Rattle.det_cbor.specs.Faults.{width_of, BadHead, NothingThere, LeftOpen, Reserved, OtherSimple, CutShort, NotTheShortest}
use Rattle.det_cbor.specs.ResultLaws.{chosen, bind_err, same_err}
use Rattle.det_cbor.specs.ArgumentLaws.{IsBytes, IsBytes-take}
use Rattle.det_cbor.proofs.Widths.{IsCode, code_24, code_25, code_26, code_27}

number_bad : (major low least : ℕ) → IsCode low least → (bytes : List ℕ) (reason : Reason) → IsBytes bytes → major < 7 → number_at (width_of low) least bytes ≡ Err reason
    → BadHead ((32 * major + low) ∷ bytes) (place_in ((32 * major + low) ∷ bytes) reason) reason
number_bad major low least code bytes reason fits lt e =
    let w = width_of low in
    let whole = (32 * major + low) ∷ bytes in
    let n = from_be_bytes w (take (byte_len w) bytes) in
    elim (chosen (ltb (length bytes) (byte_len w)) _ _ _ e) [
      | inl (short, f) ↦
          let is : Truncated ≡ reason = same_err _ _ f in
          let missing : length bytes < byte_len w = ltb-true _ _ short in
          subst (λ (r : Reason). BadHead whole (place_in whole r) r) is (CutShort major low bytes lt code.above code.below missing)
      | inr (long, e) ↦ elim (chosen (ltb n least) _ _ _ e) [
        | inl (less, f) ↦
            let is : NotShortest ≡ reason = same_err _ _ f in
            let enough : byte_len w ≤ length bytes = ltb-false _ _ long in
            let front = take (byte_len w) bytes in
            let front_fits : IsBytes front = IsBytes-take (byte_len w) bytes fits in
            let front_long : length front ≡ byte_len w = omega (arith, length-take (byte_len w) bytes) in
            let parts : to_be_bytes w n ++ drop (byte_len w) bytes ≡ bytes = ap (λ (l : List ℕ). l ++ drop (byte_len w) bytes) (code.wide.back front front_long front_fits) ∙ take-append-drop (byte_len w) bytes in
            let bad : BadHead ((32 * major + low) ∷ (to_be_bytes w n ++ drop (byte_len w) bytes)) 0 NotShortest = NotTheShortest major low n (drop (byte_len w) bytes) lt code.above code.below (code.wide.below front front_fits) (code.shorter major n (ltb-true _ _ less)) in
            subst (λ (r : Reason). BadHead whole (place_in whole r) r) is (subst (λ (l : List ℕ). BadHead ((32 * major + low) ∷ l) 0 NotShortest) parts bad)
        | inr (more, never) ↦ absurd cc
      ]
    ]

-- a first byte whose lower five bits are none of the good ones
open_bad : (major : ℕ) (bytes : List ℕ) (reason : Reason) → major < 8 → Indefinite ≡ reason → BadHead ((32 * major + 31) ∷ bytes) (place_in ((32 * major + 31) ∷ bytes) reason) reason
open_bad major bytes reason lt is = let whole = (32 * major + 31) ∷ bytes in subst (λ (r : Reason). BadHead whole (place_in whole r) r) is (LeftOpen major bytes lt)

reserved_bad : (major low : ℕ) (bytes : List ℕ) (reason : Reason) → major < 8 → 28 ≤ low → low ≤ 30 → Kind ≡ reason → BadHead ((32 * major + low) ∷ bytes) (place_in ((32 * major + low) ∷ bytes) reason) reason
reserved_bad major low bytes reason lt ge le is = let whole = (32 * major + low) ∷ bytes in subst (λ (r : Reason). BadHead whole (place_in whole r) r) is (Reserved major low bytes lt ge le)

argument_bad : (major low : ℕ) (bytes : List ℕ) (reason : Reason) → IsBytes bytes → major < 7 → low < 32 → argument_at low bytes ≡ Err reason
    → BadHead ((32 * major + low) ∷ bytes) (place_in ((32 * major + low) ∷ bytes) reason) reason
unfolding argument_at
argument_bad major low bytes reason fits lt small e =
    let Bad = λ (k : ℕ). BadHead ((32 * major + k) ∷ bytes) (place_in ((32 * major + k) ∷ bytes) reason) reason in
    elim (chosen (ltb low 24) _ _ _ e) [
      | inl (is, never) ↦ absurd cc
      | inr (not_24, e) ↦ elim (chosen (eqb low 24) _ _ _ e) [
        | inl (is, e) ↦ subst Bad (sym (eqb-true _ _ is)) (number_bad major 24 24 code_24 bytes reason fits lt e)
        | inr (other_24, e) ↦ elim (chosen (eqb low 25) _ _ _ e) [
          | inl (is, e) ↦ subst Bad (sym (eqb-true _ _ is)) (number_bad major 25 (2 ^ 8) code_25 bytes reason fits lt e)
          | inr (other_25, e) ↦ elim (chosen (eqb low 26) _ _ _ e) [
            | inl (is, e) ↦ subst Bad (sym (eqb-true _ _ is)) (number_bad major 26 (2 ^ 16) code_26 bytes reason fits lt e)
            | inr (other_26, e) ↦ elim (chosen (eqb low 27) _ _ _ e) [
              | inl (is, e) ↦ subst Bad (sym (eqb-true _ _ is)) (number_bad major 27 (2 ^ 32) code_27 bytes reason fits lt e)
              | inr (other_27, e) ↦ elim (chosen (eqb low 31) _ _ _ e) [
                | inl (is, f) ↦ subst Bad (sym (eqb-true _ _ is)) (open_bad major bytes reason (omega arith) (same_err _ _ f))
                | inr (other_31, f) ↦
                    let a : 24 ≤ low = ltb-false _ _ not_24 in
                    let b : low ≡ 24 → ⊥ = eqb-false _ _ other_24 in
                    let c : low ≡ 25 → ⊥ = eqb-false _ _ other_25 in
                    let d : low ≡ 26 → ⊥ = eqb-false _ _ other_26 in
                    let g : low ≡ 27 → ⊥ = eqb-false _ _ other_27 in
                    let h : low ≡ 31 → ⊥ = eqb-false _ _ other_31 in
                    reserved_bad major low bytes reason (omega arith) (omega arith) (omega arith) (same_err _ _ f)
              ]
            ]
          ]
        ]
      ]
    ]

simple_bad : (low : ℕ) (bytes : List ℕ) (reason : Reason) → low < 32 → simple_value low ≡ Err reason → BadHead ((32 * 7 + low) ∷ bytes) (place_in ((32 * 7 + low) ∷ bytes) reason) reason
simple_bad low bytes reason small e =
    elim (chosen (eqb low 20) _ _ _ e) [
      | inl (is, never) ↦ absurd cc
      | inr (not_20, e) ↦ elim (chosen (eqb low 21) _ _ _ e) [
        | inl (is, never) ↦ absurd cc
        | inr (not_21, e) ↦ elim (chosen (eqb low 22) _ _ _ e) [
          | inl (is, never) ↦ absurd cc
          | inr (not_22, e) ↦ elim (chosen (eqb low 31) _ _ _ e) [
            | inl (is, f) ↦ subst (λ (k : ℕ). BadHead ((32 * 7 + k) ∷ bytes) (place_in ((32 * 7 + k) ∷ bytes) reason) reason) (sym (eqb-true _ _ is)) (open_bad 7 bytes reason (omega arith) (same_err _ _ f))
            | inr (not_31, f) ↦
                let h : low ≡ 31 → ⊥ = eqb-false _ _ not_31 in
                let whole = (32 * 7 + low) ∷ bytes in
                elim (cases_lt low 28) [
                  | inl less ↦ subst (λ (r : Reason). BadHead whole (place_in whole r) r) (same_err _ _ f) (OtherSimple low bytes less (eqb-false _ _ not_20) (eqb-false _ _ not_21) (eqb-false _ _ not_22))
                  | inr more ↦ reserved_bad 7 low bytes reason (omega arith) more (omega arith) (same_err _ _ f)
                ]
          ]
        ]
      ]
    ]

pub head_bad : (bytes : List ℕ) (reason : Reason) → IsBytes bytes → head_at bytes ≡ Err reason → BadHead bytes (place_in bytes reason) reason
unfolding head_at
head_bad [] reason fits e = subst (λ (r : Reason). BadHead [] (place_in [] r) r) (same_err _ _ e) NothingThere
head_bad (first ∷ bytes) reason fits e =
    let Bad = λ (b : ℕ). BadHead (b ∷ bytes) (place_in (b ∷ bytes) reason) reason in
    let whole : 32 * (first / 32) + first % 32 ≡ first = omega arith in
    let low : first % 32 < 32 = omega arith in
    elim (chosen (eqb (first / 32) 7) _ _ _ e) [
      | inl (is, e) ↦ bind_err _ _ _ e
          (λ f. subst Bad (ap (λ (m : ℕ). 32 * m + first % 32) (sym (eqb-true _ _ is)) ∙ whole) (simple_bad (first % 32) bytes reason low f))
          (λ g g-is never. absurd cc)
      | inr (other, e) ↦ bind_err _ _ _ e
          (λ f.
          let byte : first < 256 = fits 0 in
          let not_7 : first / 32 ≡ 7 → ⊥ = eqb-false _ _ other in
          subst Bad whole (argument_bad (first / 32) (first % 32) bytes reason (λ i. fits (suc i)) (omega arith) low f))
          (λ x x-is never. absurd cc)
    ]
