-- As many indices are listed as are read.
use Rattle.std.proofs.Common.{◌≡◌, ◌∙◌, ℕ, zero, suc, List, [], ◌∷◌, length, Result, Ok, Err, refl, ap}
use Rattle.std.specs.Prelude.{IsOk}
use Rattle.det_cbor.specs.HeadReading.{◌>>=◌}
use Rattle.det_cbor.specs.Position.{Position}
use Rattle.suit_params.specs.declared.refusal.Refusal.{Refusal}
use Rattle.suit_commands.specs.SequenceReading.{element_from, indices_from}
use Rattle.suit_cursor.specs.LentParts.{first_or}
use Rattle.suit_cursor.proofs.Known.{ok_is, first_ok, then_ok}

grown : (i : ℕ) (r : Result (List ℕ × Position) Refusal) → IsOk r → length (first_or [] (r >>= λ is. Ok (i ∷ is.0, is.1))) ≡ suc (length (first_or [] r))
grown i (Ok is) ok = refl
grown i (Err bad) ok = absurd cc

abbrev more : ℕ → ℕ → ℕ → ℕ × Position → Result (List ℕ × Position) Refusal
more count list n i = indices_from count list n i.1 >>= λ is. Ok (i.0 ∷ is.0, is.1)

pub indices_length : (count list n : ℕ) (p : Position) → IsOk (indices_from count list n p) → length (first_or [] (indices_from count list n p)) ≡ n
indices_length count list zero p ok = refl
indices_length count list (suc n) p ok =
    let one = ok_is (element_from count list p) (first_ok (element_from count list p) (more count list n) ok) in
    let others : IsOk (indices_from count list n one.0.1) = first_ok (indices_from count list n one.0.1) (λ is. Ok (one.0.0 ∷ is.0, is.1)) (then_ok (element_from count list p) (more count list n) one.0 one.1 ok) in
    ap (λ (r : Result (ℕ × Position) Refusal). length (first_or [] (r >>= more count list n))) one.1
    ∙ grown one.0.0 (indices_from count list n one.0.1) others
    ∙ ap suc (indices_length count list n one.0.1 others)
