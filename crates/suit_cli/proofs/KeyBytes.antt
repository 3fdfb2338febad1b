-- The key of a flash by its bytes.
use Rattle.std.proofs.Common.{◌≡◌, ◌∙◌, ◌≤◌, ◌<◌, ◌+◌, ◌-◌, ◌++◌, ℕ, List, length, drop, replicate, get_or, get_or-append-add, ap, subst, arith}
use Rattle.std.proofs.lemmas.List.{drop-replicate, get_or-replicate}
use Rattle.flash_layout.specs.declared.key.Key.{Key}
use Rattle.flash_layout.specs.Layouts.{IsKey}
use Rattle.suit_cli.specs.Devices.{key_of}

abbrev with_length : ℕ → List ℕ → Key
with_length n bytes = record { bytes = bytes; length = n }

-- bytes copied to the front of zeros
pub key_made : (bytes copied room : List ℕ) → copied ≡ bytes → room ≡ replicate 64 0
    → with_length (length bytes) (copied ++ drop (length bytes) room) ≡ key_of bytes
key_made bytes copied room same zeros =
    ap (with_length (length bytes))
    (ap (λ (l : List ℕ). l ++ drop (length bytes) room) same ∙ ap (λ (l : List ℕ). bytes ++ drop (length bytes) l) zeros
    ∙ ap (λ (l : List ℕ). bytes ++ l) (drop-replicate (length bytes) 64 0))

zero_behind : (bytes : List ℕ) (k : ℕ) → k < 64 - length bytes → get_or (bytes ++ replicate (64 - length bytes) 0) (length bytes + k) 0 ≡ 0
zero_behind bytes k within = get_or-append-add bytes (replicate (64 - length bytes) 0) k 0 ∙ get_or-replicate (64 - length bytes) k 0 0 within

pub key_allowed : (bytes : List ℕ) → 1 ≤ length bytes → length bytes ≤ 64 → IsKey (key_of bytes)
key_allowed bytes some few = record {
  some = some;
  few = few;
  rest = λ i behind within.
      subst (λ (j : ℕ). get_or (bytes ++ replicate (64 - length bytes) 0) j 0 ≡ 0) (omega (arith, behind)) (zero_behind bytes (i - length bytes) (omega (arith, behind, within, few)));
}
