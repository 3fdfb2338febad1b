-- Looking back through events for a match.
use Rattle.std.proofs.Common.{◌≡◌, ◌≢◌, ◌-◌, ◌<◌, ◌≤◌, ℕ, zero, suc, List, [], ◌∷◌, ◌++◌, length, get_or, take, Option, sym, ap, ◌∙◌, subst, arith}
use Rattle.std.specs.Prelude.{◌↔◌}
use Rattle.std.proofs.Math.Seq.{take-suc}
use Rattle.suit_params.specs.declared.digest.Digest.{Digest}
use Rattle.path_model.specs.declared.event.Event.{Event}
use Rattle.path_model.specs.declared.event.Event.TheVariants.{Matched, Wrote}
use Rattle.path_model.specs.Safe.{HasMatched}
use Rattle.path_model.proofs.CoverLaws.{others_leave, nothing_matched}

-- the events up to one, and that one
taken : (es : List Event) (left : ℕ) (e d : Event) → 0 < left → left ≤ length es → e ≡ get_or es (left - 1) d → take left es ≡ take (left - 1) es ++ e ∷ []
taken es zero e d some within is = absurd (omega arith)
taken es (suc n) e d some within is =
    let one : suc n - 1 ≡ n = omega arith in
    let at : e ≡ get_or es n d = is ∙ ap (λ (k : ℕ). get_or es k d) one in
    take-suc es n d (omega arith) ∙ ap (λ (x : Event). take n es ++ x ∷ []) (sym at) ∙ ap (λ (k : ℕ). take k es ++ e ∷ []) (sym one)

module _ (es : List Event) (left : ℕ) (e d : Event) (c : ℕ) (digest : Digest) (size : Option ℕ) (some : 0 < left) (within : left ≤ length es) (is : e ≡ get_or es (left - 1) d)
    (same : HasMatched es c digest size ↔ HasMatched (take left es) c digest size) where
  pub earlier : e ≢ Matched c digest size → e ≢ Wrote c → HasMatched es c digest size ↔ HasMatched (take (left - 1) es) c digest size
  earlier other unwritten =
      let before = others_leave (take (left - 1) es) e c digest size other unwritten in
      let whole = taken es left e d some within is in (
        λ h. before.0 (subst (λ (xs : List Event). HasMatched xs c digest size) whole (same.0 h)),
        λ h. same.1 (subst (λ (xs : List Event). HasMatched xs c digest size) (sym whole) (before.1 h)),
      )

pub nowhere : (es : List Event) (left c : ℕ) (digest : Digest) (size : Option ℕ) → left ≡ 0 → (HasMatched es c digest size ↔ HasMatched (take left es) c digest size) → HasMatched es c digest size → ⊥
nowhere es left c digest size none same h =
    nothing_matched c digest size (subst (λ (n : ℕ). HasMatched (take n es) c digest size) none (same.0 h))
