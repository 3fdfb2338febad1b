-- A string that is written is read back.
use Rattle.std.proofs.Common.{◌≡◌, ℕ, zero, suc, ◌+◌, ◌*◌, ◌/◌, ◌%◌, ◌<◌, ◌≤◌, ◌==◌, ◌||◌, false, List, [], ◌∷◌, ◌++◌, length, slice_index, ◌⊎◌, Option, Some, None, refl, sym, ap, subst, ◌∙◌, append_assoc, arith, inl, inr}
use Rattle.std.specs.Prelude.{codes, nat_lt}
use Rattle.std.specs.List.{AllByRecursion}
use Rattle.std.proofs.lemmas.Bool.{cases_Bool, cases_eq, or_from, ne_eqb}
use Rattle.std.proofs.lemmas.List.{length-append}
use Rattle.hex.specs.Hex.{encode_lower, encode_with, hex_digit_value, lower_digits}
use Rattle.hex.proofs.HexLemmas.{IsDigits-lower_digits, length-encode_with}
use Rattle.det_cbor.specs.DataItem.{IsByte}
use Rattle.cbor_diag.specs.declared.quoted.Quoted.TheVariants as quoted
use Rattle.cbor_diag.specs.Notation.{escape, escaped}
use Rattle.cbor_diag.specs.Reading.{after, hex_byte, character, quoted_by, quoted_at}

-- ---- bytes

pub hex_byte_again : (b : ℕ) (rest : List ℕ) → b < 256 → hex_byte (encode_lower (b ∷ []) ++ rest) ≡ Some (b, rest)
unfolding encode_with
hex_byte_again b rest lt =
    let high : hex_digit_value (slice_index lower_digits (b / 16)) ≡ Some (b / 16) = IsDigits-lower_digits (b / 16) (omega arith) in
    let low : hex_digit_value (slice_index lower_digits (b % 16)) ≡ Some (b % 16) = IsDigits-lower_digits (b % 16) (omega arith) in
    let value : b / 16 * 16 + b % 16 ≡ b = omega arith in
    rw (high, low, value) refl

-- a digit is not a quote
no_quote_digit : (d : ℕ) → d < 16 → (slice_index lower_digits d == 39) ≡ false
no_quote_digit d lt = ne_eqb _ _ (λ is. let value : hex_digit_value (slice_index lower_digits d) ≡ Some d = IsDigits-lower_digits d lt in let none : ◌≡◌ {A = Option ℕ} None (Some d) = subst (λ (v : ℕ). hex_digit_value v ≡ Some d) is value in absurd cc)

no_quote_byte : (b : ℕ) (rest : List ℕ) → b < 256 → after (codes "'") (encode_lower (b ∷ []) ++ rest) ≡ None
unfolding encode_with
no_quote_byte b rest lt = let other : (slice_index lower_digits (b / 16) == 39) ≡ false = no_quote_digit (b / 16) (omega arith) in rw other refl

bytes_by : (bytes rest : List ℕ) (count : ℕ) → AllByRecursion IsByte bytes → length bytes < count
    → quoted_by quoted.Bytes count (encode_lower bytes ++ (codes "'" ++ rest)) ≡ Some (bytes, rest)
unfolding encode_with
bytes_by bytes rest zero all lt = absurd (omega arith)
bytes_by [] rest (suc count) all lt = refl
bytes_by (b ∷ bytes) rest (suc count) all lt =
    let behind = encode_lower bytes ++ (codes "'" ++ rest) in
    let unclosed : after (codes "'") (encode_lower (b ∷ []) ++ behind) ≡ None = no_quote_byte b behind all.0 in
    let one : hex_byte (encode_lower (b ∷ []) ++ behind) ≡ Some (b, behind) = hex_byte_again b behind all.0 in
    let others : quoted_by quoted.Bytes count behind ≡ Some (bytes, rest) = bytes_by bytes rest count all.1 (omega arith) in
    rw (unclosed, one, others) refl

pub bytes_again : (bytes rest : List ℕ) → AllByRecursion IsByte bytes
    → quoted_at quoted.Bytes (encode_lower bytes ++ (codes "'" ++ rest)) ≡ Some (bytes, rest)
bytes_again bytes rest all =
    bytes_by bytes rest (length (encode_lower bytes ++ (codes "'" ++ rest))) all
    (omega (arith, length-append (encode_lower bytes) (codes "'" ++ rest), length-encode_with lower_digits bytes))

-- ---- texts

-- how a byte appears in a text
pub record StandsIn (b : ℕ) : Type 0 where
  pub read : (rest : List ℕ) → character (escape b ++ rest) ≡ Some (b, rest)
  pub unclosed : (rest : List ℕ) → after (codes "\"") (escape b ++ rest) ≡ None
  pub long : 1 ≤ length (escape b)

stands_escaped : (b : ℕ) → (b ≡ 34) ⊎ (b ≡ 92) → StandsIn b
stands_escaped b (inl e) = subst StandsIn (sym e) (record { read = λ rest. refl; unclosed = λ rest. refl; long = omega arith })
stands_escaped b (inr e) = subst StandsIn (sym e) (record { read = λ rest. refl; unclosed = λ rest. refl; long = omega arith })

stands_control : (b : ℕ) → b < 256 → escape b ≡ codes "\\u00" ++ encode_lower (b ∷ []) → StandsIn b
stands_control b lt is = record {
  read = λ rest. rw is (hex_byte_again b rest lt);
  unclosed = λ rest. rw is refl;
  long = rw is (omega arith);
}

stands_plain : (b : ℕ) → escape b ≡ b ∷ [] → (b == 34) ≡ false → (b == 92) ≡ false → StandsIn b
stands_plain b is quote slash = record {
  read = λ rest. rw (is, slash) refl;
  unclosed = λ rest. rw (is, quote) refl;
  long = rw is (omega arith);
}

pub stands_in : (b : ℕ) → b < 256 → StandsIn b
stands_in b lt =
    elim (cases_eq b 34) [
      | inl e ↦ stands_escaped b (inl e)
      | inr quote ↦ elim (cases_eq b 92) [
        | inl e ↦ stands_escaped b (inr e)
        | inr slash ↦
            let no_quote : (b == 34) ≡ false = ne_eqb _ _ quote in
            let no_slash : (b == 92) ≡ false = ne_eqb _ _ slash in
            let neither : ((b == 34) || (b == 92)) ≡ false = or_from _ _ no_quote no_slash in
            elim (cases_Bool (nat_lt b 32 || (b == 127))) [
              | inl control ↦ stands_control b lt (rw (neither, control) refl)
              | inr none ↦ stands_plain b (rw (neither, none) refl) no_quote no_slash
            ]
      ]
    ]

text_by : (bytes rest : List ℕ) (count : ℕ) → AllByRecursion IsByte bytes → length bytes < count
    → quoted_by quoted.Text count (escaped bytes ++ (codes "\"" ++ rest)) ≡ Some (bytes, rest)
text_by bytes rest zero all lt = absurd (omega arith)
text_by [] rest (suc count) all lt = refl
text_by (b ∷ bytes) rest (suc count) all lt =
    let behind = escaped bytes ++ (codes "\"" ++ rest) in
    let whole : (escape b ++ escaped bytes) ++ (codes "\"" ++ rest) ≡ escape b ++ behind = append_assoc (escape b) (escaped bytes) (codes "\"" ++ rest) in
    let s = stands_in b all.0 in
    let unclosed : after (codes "\"") (escape b ++ behind) ≡ None = s.unclosed behind in
    let one : character (escape b ++ behind) ≡ Some (b, behind) = s.read behind in
    let others : quoted_by quoted.Text count behind ≡ Some (bytes, rest) = text_by bytes rest count all.1 (omega arith) in
    ap (quoted_by quoted.Text (suc count)) whole ∙ rw (unclosed, one, others) refl

length-escaped : (bytes : List ℕ) → AllByRecursion IsByte bytes → length bytes ≤ length (escaped bytes)
length-escaped [] all = omega arith
length-escaped (b ∷ bytes) all = omega (arith, length-append (escape b) (escaped bytes), (stands_in b all.0).long, length-escaped bytes all.1)

pub text_again : (bytes rest : List ℕ) → AllByRecursion IsByte bytes
    → quoted_at quoted.Text (escaped bytes ++ (codes "\"" ++ rest)) ≡ Some (bytes, rest)
text_again bytes rest all =
    text_by bytes rest (length (escaped bytes ++ (codes "\"" ++ rest))) all
    (omega (arith, length-append (escaped bytes) (codes "\"" ++ rest), length-escaped bytes all))
