-- Which numbers are read.
use Rattle.std.proofs.Common.{◌≡◌, ◌∙◌, ◌≢◌, ◌<◌, ◌^◌, zero, suc, ℕ, length, get_or, Bool, true, false, ◌&&◌, Some, None, refl, sym, ap, ap₂, subst, arith, if◌then◌else◌}
use Rattle.std.specs.Prelude.{nat_lt, Result, Ok, Err, decimal}
use Rattle.std.proofs.lemmas.Fmt.{decimal_digit, decimal-digits_value, digits_decimal, digits_value-decimal, decimal_nonempty, first_decimal}
use Rattle.std.specs.Str.{all_ascii_digits}
use Rattle.std.specs.Str.Parse.{ParsesUnsigned, digits_value}
use Rattle.std.proofs.lemmas.Str.Parse.{IsNumeralModel, numerals_by_value, tells_all_ascii_digits, parse_plain}
use Rattle.command_words.specs.Tasks.{Word}
use Rattle.command_words.specs.Numbers.{is_short, is_number, number_of}
use Rattle.command_words.proofs.Handed.{both}

pub own : IsNumeralModel (λ (digits : Word). all_ascii_digits digits ≡ true) (digits_value 10)
own = numerals_by_value _ tells_all_ascii_digits

pub below : (a b : ℕ) → a < b → nat_lt a b ≡ true
below a b h = grind arith

pub is_below : (a b : ℕ) → nat_lt a b ≡ true → a < b
is_below a b h = grind arith

-- a number, part by part
pub record IsNumber (word : Word) : Type 0 where
  pub digits : all_ascii_digits word ≡ true
  pub some : 0 < length word
  pub short : is_short word ≡ true
  pub small : digits_value 10 word < 2 ^ 64

pub number_is : (word : Word) → IsNumber word → is_number word ≡ true
number_is word n = ap₂ ◌&&◌ n.digits (ap₂ ◌&&◌ (below 0 (length word) n.some) (ap₂ ◌&&◌ n.short (below (digits_value 10 word) (2 ^ 64) n.small)))

pub is_that_number : (word : Word) → is_number word ≡ true → IsNumber word
is_that_number word h =
    let first = both (all_ascii_digits word) _ h in
    let second = both (nat_lt 0 (length word)) _ first.1 in
    let third = both (is_short word) _ second.1 in
    record { digits = first.0; some = is_below 0 (length word) second.0; short = third.0; small = is_below (digits_value 10 word) (2 ^ 64) third.1 }

pub number_some : (word : Word) → is_number word ≡ true → number_of word ≡ Some (digits_value 10 word)
number_some word h = ap (λ (b : Bool). if b then Some (digits_value 10 word) else None) h

pub number_none : (word : Word) → (is_number word ≡ true → ⊥) → number_of word ≡ None
number_none word never = of (is_number word) refl where
  of : (b : Bool) → is_number word ≡ b → number_of word ≡ None
  of true h = absurd (never h)
  of false h = ap (λ (b : Bool). if b then Some (digits_value 10 word) else None) h

pub read_number : {E : Type 0} (word : Word) (n : ℕ) (parsed : Result ℕ E) → parsed ≡ Ok n → ParsesUnsigned 64 10 word parsed → get_or word 0 0 ≢ 43 → is_short word ≡ true → Some n ≡ number_of word
read_number {E} word n parsed is parses no_plus short =
    let plain = parse_plain own {E = E} 64 word (Ok n) (subst (λ (r : Result ℕ E). ParsesUnsigned 64 10 word r) is parses) no_plus in
    let number : IsNumber word = record { digits = plain.0.0; some = plain.0.1; short = short; small = plain.0.2 } in
    ap (λ (m : ℕ). Some m) plain.1 ∙ sym (number_some word (number_is word number))

pub read_none : {E : Type 0} (word : Word) (e : E) (parsed : Result ℕ E) → parsed ≡ Err e → ParsesUnsigned 64 10 word parsed → get_or word 0 0 ≢ 43 → None ≡ number_of word
read_none {E} word e parsed is parses no_plus =
    let never = parse_plain own {E = E} 64 word (Err e) (subst (λ (r : Result ℕ E). ParsesUnsigned 64 10 word r) is parses) no_plus in
    sym (number_none word (λ yes. let n = is_that_number word yes in never (n.digits, n.some, n.small)))

-- ---- numbers and their spellings

leads : (word : Word) → is_short word ≡ true → get_or word 0 0 ≡ 48 → length word ≡ 1
leads word short zero_leads = grind arith

pub number_spelled : (word : Word) → is_number word ≡ true → word ≡ decimal (digits_value 10 word)
number_spelled word is = let n = is_that_number word is in sym (decimal-digits_value own word n.digits n.some (leads word n.short) n.small)

short_decimal : (n : ℕ) → n < 2 ^ 64 → is_short (decimal n) ≡ true
short_decimal zero small = ap is_short (decimal_digit 0 (omega arith))
short_decimal (suc n) small = let first = first_decimal (suc n) (omega arith) small in above (decimal (suc n)) first where
  above : (word : Word) → 48 < get_or word 0 0 → is_short word ≡ true
  above word h = grind arith

pub number_of_decimal : (n : ℕ) → n < 2 ^ 64 → number_of (decimal n) ≡ Some n
number_of_decimal n small =
    let value : digits_value 10 (decimal n) ≡ n = digits_value-decimal own n small in
    let number : IsNumber (decimal n) = record { digits = digits_decimal own n small; some = decimal_nonempty n small; short = short_decimal n small; small = rw value small } in
    number_some (decimal n) (number_is (decimal n) number) ∙ ap (λ (m : ℕ). Some m) value
