-- A number that is written is read back.
use Rattle.std.proofs.Common.{◌≡◌, ℕ, ◌+◌, ◌-◌, ◌*◌, ◌/◌, ◌%◌, ◌^◌, ◌<◌, ◌≤◌, true, false, List, [], ◌∷◌, ◌++◌, Some, refl, ap, ◌∙◌, append_assoc, arith}
use Rattle.std.specs.Prelude.{decimal, nat_le}
use Rattle.std.proofs.lemmas.Bool.{and_from, le-leb}
use Rattle.std.proofs.lemmas.Fmt.{decimal_by_steps_wide}
use Rattle.cbor_diag.specs.Reading.{is_digit, number_at}

-- no digit follows
abbrev pub NoDigit : List ℕ → Type 0
NoDigit [] = Unit {0}
NoDigit (b ∷ text) = is_digit b ≡ false

digit_is : (d : ℕ) → d < 10 → is_digit (48 + d) ≡ true
digit_is d lt = and_from (nat_le 48 (48 + d)) (nat_le (48 + d) 57) (le-leb 48 (48 + d) (omega arith)) (le-leb (48 + d) 57 (omega arith))

number_step : (n d : ℕ) (rest : List ℕ) → n ≤ 2 ^ 64 → d < 10 → number_at n ((48 + d) ∷ rest) ≡ number_at (n * 10 + d) rest
number_step n d rest le lt =
    let digit : is_digit (48 + d) ≡ true = digit_is d lt in
    let small : nat_le n (2 ^ 64) ≡ true = le-leb _ _ le in
    let value : 48 + d - 48 ≡ d = omega arith in
    rw (digit, small, value) refl

-- the digits at the front are read first, whatever follows
number_first : (n : ℕ) (rest : List ℕ) → n ≤ 2 ^ 64 → number_at 0 (decimal n ++ rest) ≡ number_at n rest
number_first n rest le =
    decimal_by_steps_wide (λ m ds. (behind : List ℕ) → m ≤ 2 ^ 64 → number_at 0 (ds ++ behind) ≡ number_at m behind) one more n (omega arith) rest le
  where
    one : (m : ℕ) → m < 10 → (behind : List ℕ) → m ≤ 2 ^ 64 → number_at 0 (((48 + m) ∷ []) ++ behind) ≡ number_at m behind
    one m lt behind le = number_step 0 m behind (omega arith) lt ∙ ap (λ (k : ℕ). number_at k behind) (omega arith)

    more : (m : ℕ) (ds : List ℕ) → 10 ≤ m → ((behind : List ℕ) → m / 10 ≤ 2 ^ 64 → number_at 0 (ds ++ behind) ≡ number_at (m / 10) behind) → (behind : List ℕ) → m ≤ 2 ^ 64 → number_at 0 ((ds ++ ((48 + m % 10) ∷ [])) ++ behind) ≡ number_at m behind
    more m ds ge so_far behind le =
        ap (number_at 0) (append_assoc ds ((48 + m % 10) ∷ []) behind) ∙ so_far ((48 + m % 10) ∷ behind) (omega arith)
        ∙ number_step (m / 10) (m % 10) behind (omega arith) (omega arith) ∙ ap (λ (k : ℕ). number_at k behind) (omega arith)

number_end : (n : ℕ) (rest : List ℕ) → NoDigit rest → number_at n rest ≡ Some (n, rest)
number_end n [] end = refl
number_end n (b ∷ rest) end = rw end refl

pub number_again : (n : ℕ) (rest : List ℕ) → n ≤ 2 ^ 64 → NoDigit rest → number_at 0 (decimal n ++ rest) ≡ Some (n, rest)
number_again n rest le end = number_first n rest le ∙ number_end n rest end

-- a number begins with a digit
pub record BeginsWithDigit (text : List ℕ) : Type 0 where
  pub first : ℕ
  pub others : List ℕ
  pub is : text ≡ first ∷ others
  pub digit : is_digit first ≡ true

longer : (ds : List ℕ) (c : ℕ) → BeginsWithDigit ds → BeginsWithDigit (ds ++ (c ∷ []))
longer ds c b = record { first = b.first; others = b.others ++ (c ∷ []); is = ap (λ (l : List ℕ). l ++ (c ∷ [])) b.is; digit = b.digit }

digits_first : (n : ℕ) → n ≤ 2 ^ 64 → BeginsWithDigit (decimal n)
digits_first n le = decimal_by_steps_wide (λ m ds. BeginsWithDigit ds) one (λ m ds ge b. longer ds (48 + m % 10) b) n (omega arith)
  where
    one : (m : ℕ) → m < 10 → BeginsWithDigit ((48 + m) ∷ [])
    one m lt = record { first = 48 + m; others = []; is = refl; digit = digit_is m lt }

pub begins_with_digit : (n : ℕ) (rest : List ℕ) → n ≤ 2 ^ 64 → BeginsWithDigit (decimal n ++ rest)
begins_with_digit n rest le =
    let b = digits_first n le in
    record { first = b.first; others = b.others ++ rest; is = ap (λ (l : List ℕ). l ++ rest) b.is; digit = b.digit }
