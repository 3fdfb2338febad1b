-- A string that is refused is faulty.
use Rattle.std.proofs.Common.{◌≡◌, ℕ, ◌+◌, ◌^◌, ◌<◌, ◌≤◌, true, false, ltb, List, ◌++◌, length, Result, Ok, Err, refl, sym, ap, subst, ◌∙◌, arith, inl, inr}
use Rattle.std.specs.Str.{IsUtf8, is_utf8}
use Rattle.std.proofs.lemmas.Bool.{ltb-true}
use Rattle.std.proofs.lemmas.Str.{is_utf8-from_IsUtf8}
use Rattle.det_cbor.specs.declared.reason.Reason.{Reason}
use Rattle.det_cbor.specs.declared.reason.Reason.TheVariants.{Truncated, Indefinite, Kind, NotShortest, TooDeep, BadText, Repeated, Order}
use Rattle.det_cbor.specs.declared.reason.Stop.{Stop}
use Rattle.det_cbor.specs.Faults.{Faulty, ShortString, NoText}
use Rattle.det_cbor.specs.Heads.{head_bytes}
use Rattle.det_cbor.specs.HeadReading.{place_in}
use Rattle.det_cbor.specs.ItemReading.{Reader, stop_at, stopped, string_at, text_at}
use Rattle.det_cbor.specs.ResultLaws.{chosen, bind_err, same_err}
use Rattle.det_cbor.specs.ArgumentLaws.{IsBytes, all_bytes}
use Rattle.det_cbor.proofs.ItemTakes.{string_takes}

-- where a reader stopped, the bytes are faulty
pub record IsFault (levels : ℕ) (bytes : List ℕ) (s : Stop) : Type 0 where
  pub place : ℕ
  pub faulty : Faulty levels bytes place s.reason
  pub sum : place + s.left ≡ length bytes

abbrev pub StopsFaulty : ℕ → Reader → Type 0
StopsFaulty levels read = (bytes : List ℕ) (s : Stop) → IsBytes bytes → read bytes ≡ Err s → IsFault levels bytes s

-- ---- faults of a head or a string

pub stop_place : (bytes : List ℕ) (reason : Reason) → (place_in bytes reason + (stop_at bytes reason).left ≡ length bytes) × ((stop_at bytes reason).reason ≡ reason)
stop_place bytes Truncated = (omega arith, refl)
stop_place bytes Indefinite = (omega arith, refl)
stop_place bytes Kind = (omega arith, refl)
stop_place bytes NotShortest = (omega arith, refl)
stop_place bytes TooDeep = (omega arith, refl)
stop_place bytes BadText = (omega arith, refl)
stop_place bytes Repeated = (omega arith, refl)
stop_place bytes Order = (omega arith, refl)

pub fault_here : (levels : ℕ) (bytes : List ℕ) (reason : Reason) (s : Stop) → Faulty levels bytes (place_in bytes reason) reason → stop_at bytes reason ≡ s → IsFault levels bytes s
fault_here levels bytes reason s faulty is =
    let at = stop_place bytes reason in
    subst (λ (t : Stop). IsFault levels bytes t) is (record { place = place_in bytes reason; faulty = subst (λ (r : Reason). Faulty levels bytes (place_in bytes reason) r) (sym at.1) faulty; sum = at.0 })

pub stopped_err : {A : Type 0} (bytes : List ℕ) (r : Result A Reason) (s : Stop) → stopped bytes r ≡ Err s → (reason : Reason) × (r ≡ Err reason) × (stop_at bytes reason ≡ s)
stopped_err bytes (Ok x) s e = absurd cc
stopped_err {A} bytes (Err reason) s e = (reason, refl, same_err {A = A} (stop_at bytes reason) s e)

pub string_fault : (levels : ℕ) (bytes : List ℕ) (major count : ℕ) (rest : List ℕ) (reason : Reason) (s : Stop) → 2 ≤ major → major ≤ 3 → count < 2 ^ 64 → bytes ≡ head_bytes major count ++ rest
    → string_at count rest ≡ Err reason → stop_at bytes reason ≡ s → IsFault levels bytes s
string_fault levels bytes major count rest reason s ge le lt is e stop =
    elim (chosen (ltb (length rest) count) _ _ _ e) [
      | inl (short, f) ↦
          let truncated : Truncated ≡ reason = same_err _ _ f in
          let faulty : Faulty levels bytes (length bytes) Truncated = subst (λ (l : List ℕ). Faulty levels l (length l) Truncated) (sym is) (ShortString levels major count rest ge le lt (ltb-true _ _ short)) in
          fault_here levels bytes Truncated s faulty (ap (stop_at bytes) truncated ∙ stop)
      | inr (long, never) ↦ absurd cc
    ]

pub text_fault : (levels : ℕ) (bytes : List ℕ) (count : ℕ) (rest : List ℕ) (reason : Reason) (s : Stop) → IsBytes rest → count < 2 ^ 64 → bytes ≡ head_bytes 3 count ++ rest
    → text_at count rest ≡ Err reason → stop_at bytes reason ≡ s → IsFault levels bytes s
text_fault levels bytes count rest reason s fits lt is e stop =
    bind_err _ _ _ e
    (λ f. string_fault levels bytes 3 count rest reason s (omega arith) (omega arith) lt is f stop)
    (λ t t-is e. elim (chosen {A = Result (List ℕ × List ℕ) Reason} (is_utf8 t.0) (Ok t) (Err BadText) (Err reason) e) [
      | inl (good, never) ↦ absurd cc
      | inr (bad, f) ↦
          let at = string_takes count rest t fits t-is in
          let reason_is : BadText ≡ reason = same_err _ _ f in
          let long : length t.0 < 2 ^ 64 = subst (λ (n : ℕ). n < 2 ^ 64) (sym at.long) lt in
          let other : ¬ (IsUtf8 t.0) = λ text. true_false (sym (is_utf8-from_IsUtf8 t.0 text) ∙ bad) in
          let parts : head_bytes 3 (length t.0) ++ (t.0 ++ t.1) ≡ bytes = sym (is ∙ ap (λ (l : List ℕ). head_bytes 3 count ++ l) at.parts ∙ ap (λ (n : ℕ). head_bytes 3 n ++ (t.0 ++ t.1)) (sym at.long)) in
          let faulty : Faulty levels bytes 0 BadText = subst (λ (l : List ℕ). Faulty levels l 0 BadText) parts (NoText levels t.0 t.1 (long, all_bytes t.0 at.bytes) other) in
          fault_here levels bytes BadText s faulty (ap (stop_at bytes) reason_is ∙ stop)
    ])
  where
    true_false : true ≡ false → ⊥
    true_false e = absurd cc
