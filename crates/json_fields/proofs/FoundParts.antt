-- The part of a value that the pointer of a flaw finds.
use Rattle.std.proofs.Common.{◌≡◌, ◌≢◌, ℕ, zero, suc, ◌^◌, ◌<◌, List, [], ◌∷◌, ◌++◌, length, get_or, Bool, true, false, not, ◌||◌, ◌==◌, decimal, Option, Some, None, option_and_then, refl, sym, ap, subst, ◌∙◌, arith, append-nil, ⊎_elim, ne_eqb, eq-eqb, lt-ltb}
use Rattle.std.specs.Char.{digit_value}
use Rattle.std.specs.Str.Parse.{AllDigits}
use Rattle.std.proofs.lemmas.Bool.{cases_eq}
use Rattle.std.proofs.lemmas.Fmt.{decimal_is_IsNumeral, decimal_nonempty, first_decimal, length-decimal-le}
use Rattle.std.specs.Float.Numeral.{Parts, IsWellFormed, scan_numeral}
use Rattle.std.proofs.lemmas.Float.Parse.{scan_numeral-text_of}
use Rattle.serde_json.specs.Data.{Data, array, object, Items, Members}
use Rattle.serde_json.specs.Find.{pointer, walk, step, unescape, index_of, get_item, get_member}
use Rattle.serde_json.proofs.Paths.{Lacks, walk_part, walk_last}
use Rattle.json_fields.specs.Pointers.{escaped, escape, key_token, index_token}
use Rattle.json_fields.specs.PointerLaws.{Escapes, IsPointer}

-- ---- one token and what follows it

lacks_more : (c : ℕ) (xs : List ℕ) → c ≢ 47 → Lacks 47 xs → Lacks 47 (c ∷ xs)
lacks_more c xs other lacks zero inside = other
lacks_more c xs other lacks (suc i) inside = lacks i (omega (arith, inside))

found_part : (token rest : List ℕ) (d : Data) → Lacks 47 token → IsPointer rest → pointer (47 ∷ (token ++ rest)) d ≡ option_and_then (pointer rest) (step token d)
found_part token [] d lacks is = ap (λ l. walk [] l d) (append-nil token) ∙ walk_last token d lacks ∙ whole (step token d)
  where
    whole : (o : Option Data) → o ≡ option_and_then (pointer []) o
    whole None = refl
    whole (Some x) = refl
found_part token (c ∷ rest) d lacks is = rw is (walk_part token rest d lacks)

-- ---- names

unescape_plain : (c : ℕ) (xs : List ℕ) → c ≢ 126 → unescape (c ∷ xs) ≡ c ∷ unescape xs
unfolding unescape
unescape_plain c [] other = refl
unescape_plain c (x ∷ xs) other = rw (ne_eqb c 126 other) refl

unescape_tilde : (xs : List ℕ) → unescape (126 ∷ 48 ∷ xs) ≡ 126 ∷ unescape xs
unfolding unescape
unescape_tilde xs = refl

unescape_slash : (xs : List ℕ) → unescape (126 ∷ 49 ∷ xs) ≡ 47 ∷ unescape xs
unfolding unescape
unescape_slash xs = refl

record IsName (key : List ℕ) : Type 0 where
  same : unescape (escape key) ≡ key
  lacks : Lacks 47 (escape key)

module _ (escapes : Escapes) (c : ℕ) (key : List ℕ) (later : IsName key) where
  of_bytes : (bytes : List ℕ) → bytes ≡ escaped c → unescape (bytes ++ escape key) ≡ c ∷ unescape (escape key) → Lacks 47 (bytes ++ escape key) → IsName (c ∷ key)
  of_bytes bytes is back lacks = record {
    same = ap (λ (l : List ℕ). unescape (l ++ escape key)) (sym is) ∙ back ∙ ap (λ (l : List ℕ). c ∷ l) later.same;
    lacks = subst (λ (l : List ℕ). Lacks 47 (l ++ escape key)) is lacks;
  }

  tilde : c ≡ 126 → IsName (c ∷ key)
  tilde e = of_bytes (126 ∷ 48 ∷ []) (sym (ap escaped e ∙ escapes.tilde)) (unescape_tilde (escape key) ∙ ap (λ (x : ℕ). x ∷ unescape (escape key)) (sym e))
      (lacks_more 126 (48 ∷ escape key) (λ x. omega (arith, x)) (lacks_more 48 (escape key) (λ x. omega (arith, x)) later.lacks))

  slash : c ≡ 47 → IsName (c ∷ key)
  slash e = of_bytes (126 ∷ 49 ∷ []) (sym (ap escaped e ∙ escapes.slash)) (unescape_slash (escape key) ∙ ap (λ (x : ℕ). x ∷ unescape (escape key)) (sym e))
      (lacks_more 126 (49 ∷ escape key) (λ x. omega (arith, x)) (lacks_more 49 (escape key) (λ x. omega (arith, x)) later.lacks))

  plain : c ≢ 126 → c ≢ 47 → IsName (c ∷ key)
  plain other apart = of_bytes (c ∷ []) (sym (escapes.others c other apart)) (unescape_plain c (escape key) other) (lacks_more c (escape key) apart later.lacks)

  name_more : IsName (c ∷ key)
  name_more = ⊎_elim tilde (λ other. ⊎_elim slash (plain other) (cases_eq c 47)) (cases_eq c 126)

is_name : Escapes → (key : List ℕ) → IsName key
unfolding unescape
is_name escapes [] = record { same = refl; lacks = λ i inside. absurd (omega (arith, inside)) }
is_name escapes (c ∷ key) = name_more escapes c key (is_name escapes key)

pub found_member : Escapes → (key rest : List ℕ) (ms : Members) → IsPointer rest → pointer (key_token key ++ rest) (object ms) ≡ option_and_then (pointer rest) (get_member key ms)
found_member escapes key rest ms is =
    let name = is_name escapes key in
    found_part (escape key) rest (object ms) name.lacks is ∙ ap (λ (k : List ℕ). option_and_then (pointer rest) (get_member k ms)) name.same

-- ---- indices

digits_lack : (ds : List ℕ) → AllDigits 10 ds → Lacks 47 ds
digits_lack [] all = λ i inside. absurd (omega (arith, inside))
digits_lack (c ∷ ds) all = lacks_more c ds (λ e. let k : digit_value 47 < 10 = subst (λ (x : ℕ). digit_value x < 10) e all.0 in absurd (omega (arith, k))) (digits_lack ds all.1)

abbrev numeral : List ℕ → Parts
numeral ds = record { whole = ds; point = false; fraction = []; exponent_negative = false; exponent = []; len = length (ds ++ []) }

numeral_read : (n : ℕ) → n < 2 ^ 64 → scan_numeral (decimal n) ≡ numeral (decimal n)
numeral_read n fits =
    let e = decimal_is_IsNumeral n fits in
    let formed : IsWellFormed (numeral (decimal n)) = record { whole_digits = e.0.1; fraction_digits = tt; exponent_digits = tt; no_point = λ _. refl; no_exponent = λ _. refl; len_is = refl } in
    ap scan_numeral (sym (append-nil (decimal n))) ∙ scan_numeral-text_of (numeral (decimal n)) formed

or_true : (b : Bool) → (b || true) ≡ true
or_true true = refl
or_true false = refl

-- there is a single digit, or no leading zero
is_short : (n : ℕ) → n < 2 ^ 64 → (length (decimal n) == 1 || not (get_or (decimal n) 0 0 == 48)) ≡ true
is_short n fits = ⊎_elim zero_digit other_digits (cases_eq n 0)
  where
    zero_digit : n ≡ 0 → (length (decimal n) == 1 || not (get_or (decimal n) 0 0 == 48)) ≡ true
    zero_digit e = rw (eq-eqb (length (decimal n)) 1 (omega (arith, decimal_nonempty n fits, length-decimal-le 1 n (omega arith) (omega (arith, e)) fits))) refl

    other_digits : n ≢ 0 → (length (decimal n) == 1 || not (get_or (decimal n) 0 0 == 48)) ≡ true
    other_digits other =
        let above : 48 < get_or (decimal n) 0 0 = first_decimal n (omega (arith, other)) fits in
        rw (ne_eqb (get_or (decimal n) 0 0) 48 (λ e. omega (arith, above, e))) (or_true (length (decimal n) == 1))

index_read : (n : ℕ) → n < 2 ^ 64 → index_of (decimal n) ≡ Some n
unfolding index_of
index_read n fits =
    let e = decimal_is_IsNumeral n fits in
    let some = decimal_nonempty n fits in
    rw (numeral_read n fits, append-nil (decimal n), e.1, lt-ltb _ _ some, lt-ltb _ _ fits, eq-eqb (length (decimal n)) (length (decimal n)) refl, is_short n fits) refl

pub found_element : (i : ℕ) (rest : List ℕ) (ds : Items) → i < 2 ^ 64 → IsPointer rest → pointer (index_token i ++ rest) (array ds) ≡ option_and_then (pointer rest) (get_item i ds)
found_element i rest ds fits is =
    found_part (decimal i) rest (array ds) (digits_lack (decimal i) (decimal_is_IsNumeral i fits).0.1) is
    ∙ ap (λ (o : Option ℕ). option_and_then (pointer rest) (option_and_then (λ n. get_item n ds) o)) (index_read i fits)
