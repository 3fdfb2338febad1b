-- A content that fits a size, and the halves of a test.
use Rattle.std.proofs.Common.{◌≡◌, ℕ, Bool, true, false, List, Option, Some, None, refl, sym, ap, ◌∙◌, length}
use Rattle.std.proofs.lemmas.Bool.{eqb-true, true≢false}
use Rattle.std.specs.Prelude.{◌&&◌}
use Rattle.path_model.specs.DevicePlays.{fits_size}

pub first_true : (x y : Bool) → (x && y) ≡ true → x ≡ true
first_true true y e = refl
first_true false y e = e

pub second_true : (x y : Bool) → (x && y) ≡ true → y ≡ true
second_true true y e = e
second_true false y e = absurd (true≢false (sym e))

number_in : ℕ → Option ℕ → ℕ
number_in d None = d
number_in d (Some n) = n

pub fits : (s : Option ℕ) (content : List ℕ) → fits_size s content ≡ true → (n : ℕ) → s ≡ Some n → length content ≡ n
unfolding number_in
fits None content e n is = absurd cc
fits (Some m) content e n is = eqb-true (length content) m e ∙ ap (number_in m) is
