-- The escapes of a text, character by character.
use Rattle.std.proofs.Common.{◌≡◌, ℕ, ◌<◌, ◌≤◌, ◌==◌, ◌||◌, true, false, List, [], ◌∷◌, ◌++◌, refl, sym, ap, ◌∙◌, append_assoc, arith, inl, inr}
use Rattle.std.specs.Prelude.{nat_lt, encode_utf8, encode_utf8_all}
use Rattle.std.specs.List.{AllByRecursion}
use Rattle.std.proofs.lemmas.Bool.{cases_lt, or_from, le-ltb, lt-ltb, ne_eqb}
use Rattle.std.proofs.lemmas.List.{append-nil}
use Rattle.std.proofs.lemmas.Str.{encode_ascii, encodes-append}
use lib.Utf8.{encode}
use Rattle.cbor_diag.specs.Notation.{escape, escaped}

escaped-append : (xs ys : List ℕ) → escaped (xs ++ ys) ≡ escaped xs ++ escaped ys
escaped-append [] ys = refl
escaped-append (b ∷ xs) ys = ap (λ (l : List ℕ). escape b ++ l) (escaped-append xs ys) ∙ sym (append_assoc (escape b) (escaped xs) (escaped ys))

-- one more character
escaped-push : (cs : List ℕ) (c : ℕ) → escaped (encode_utf8_all (cs ++ c ∷ [])) ≡ escaped (encode_utf8_all cs) ++ escaped (encode_utf8 c)
escaped-push cs c =
    ap escaped (encodes-append cs (c ∷ []) ∙ ap (λ (l : List ℕ). encode_utf8_all cs ++ l) (append-nil (encode_utf8 c)))
    ∙ escaped-append (encode_utf8_all cs) (encode_utf8 c)

pub one_more : (front so_far all : List ℕ) (cs : List ℕ) (c : ℕ) → so_far ≡ front ++ escaped (encode_utf8_all cs) → all ≡ so_far ++ escaped (encode_utf8 c)
    → all ≡ front ++ escaped (encode_utf8_all (cs ++ c ∷ []))
one_more front so_far all cs c e step =
    step ∙ ap (λ (l : List ℕ). l ++ escaped (encode_utf8 c)) e ∙ append_assoc front (escaped (encode_utf8_all cs)) (escaped (encode_utf8 c))
    ∙ ap (λ (l : List ℕ). front ++ l) (sym (escaped-push cs c))

-- a character below 128 is one byte
pub escaped_ascii : (c : ℕ) → c < 128 → escaped (encode_utf8 c) ≡ escape c
escaped_ascii c lt = ap escaped (encode_ascii c lt) ∙ append-nil (escape c)

-- a byte that is not escaped
plain : (b : ℕ) → 32 ≤ b → (b ≡ 34 → ⊥) → (b ≡ 92 → ⊥) → (b ≡ 127 → ⊥) → escape b ≡ b ∷ []
plain b ge quote slash delete =
    let first : ((b == 34) || (b == 92)) ≡ false = or_from (b == 34) (b == 92) (ne_eqb b 34 quote) (ne_eqb b 92 slash) in
    let second : (nat_lt b 32 || (b == 127)) ≡ false = or_from (nat_lt b 32) (b == 127) (le-ltb b 32 ge) (ne_eqb b 127 delete) in
    rw (first, second) refl

high : (b : ℕ) → 128 ≤ b → escape b ≡ b ∷ []
high b ge = plain b (omega arith) (λ e. omega (arith, e)) (λ e. omega (arith, e)) (λ e. omega (arith, e))

-- bytes above 127 are left alone
abbrev IsHigh : ℕ → Type 0
IsHigh b = 128 ≤ b

all_high : (bytes : List ℕ) → AllByRecursion IsHigh bytes → escaped bytes ≡ bytes
all_high [] all = refl
all_high (b ∷ bytes) all = rw (high b all.0, all_high bytes all.1) refl

encode_high : (c : ℕ) → 128 ≤ c → AllByRecursion IsHigh (encode c)
unfolding encode
encode_high c ge =
    elim (cases_lt c 0x800) [
      | inl a ↦ let t : nat_lt c 0x80 ≡ false = le-ltb c 0x80 ge in let u : nat_lt c 0x800 ≡ true = lt-ltb c 0x800 a in rw (t, u) (omega arith, (omega arith, tt))
      | inr a ↦ elim (cases_lt c 0x10000) [
        | inl b ↦ let t : nat_lt c 0x80 ≡ false = le-ltb c 0x80 ge in let u : nat_lt c 0x800 ≡ false = le-ltb c 0x800 a in let v : nat_lt c 0x10000 ≡ true = lt-ltb c 0x10000 b in rw (t, u, v) (omega arith, (omega arith, (omega arith, tt)))
        | inr b ↦ let t : nat_lt c 0x80 ≡ false = le-ltb c 0x80 ge in let u : nat_lt c 0x800 ≡ false = le-ltb c 0x800 a in let v : nat_lt c 0x10000 ≡ false = le-ltb c 0x10000 b in rw (t, u, v) (omega arith, (omega arith, (omega arith, (omega arith, tt))))
      ]
    ]

-- a character that is not escaped
pub escaped_plain : (c : ℕ) → 32 ≤ c → (c ≡ 34 → ⊥) → (c ≡ 92 → ⊥) → (c ≡ 127 → ⊥) → escaped (encode_utf8 c) ≡ encode_utf8 c
escaped_plain c ge quote slash delete =
    elim (cases_lt c 128) [
      | inl lt ↦ escaped_ascii c lt ∙ plain c ge quote slash delete ∙ sym (encode_ascii c lt)
      | inr high_c ↦ all_high (encode_utf8 c) (encode_high c high_c)
    ]
