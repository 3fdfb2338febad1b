-- Whether bytes are UTF-8, as a test.
use Rattle.std.proofs.Common.{◌≡◌, ℕ, Bool, true, false, List, refl}
use Rattle.std.specs.Str.{IsUtf8, is_utf8}
use Rattle.std.proofs.lemmas.Str.{IsUtf8-from_is_utf8, is_utf8-from_IsUtf8}

pub good_utf8 : (bytes : List ℕ) → IsUtf8 bytes → is_utf8 bytes ≡ true
good_utf8 bytes text = is_utf8-from_IsUtf8 bytes text

pub bad_utf8 : (bytes : List ℕ) → ¬ (IsUtf8 bytes) → is_utf8 bytes ≡ false
bad_utf8 bytes other = not_true (is_utf8 bytes) (λ e. other (IsUtf8-from_is_utf8 bytes e))
  where
    not_true : (b : Bool) → (b ≡ true → ⊥) → b ≡ false
    not_true true f = absurd (f refl)
    not_true false f = refl
