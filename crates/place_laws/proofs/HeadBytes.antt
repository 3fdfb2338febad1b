-- Heads, and what is spelled by them, are bytes.
use Rattle.std.proofs.Common.{◌≡◌, ℕ, ◌^◌, ◌<◌, Bool, true, false, List, [], ◌∷◌, ◌++◌, length, refl, arith}
use Rattle.std.specs.Prelude.{nat_lt, if◌then◌else◌}
use Rattle.std.specs.List.{AllByRecursion}
use Rattle.std.proofs.lemmas.Bool.{ltb-true}
use Rattle.det_cbor.specs.Heads.{head_bytes}
use Rattle.det_cbor.specs.DataItem.{ByteString, IsByte, spell}

abbrev pub AreBytes : List ℕ → Type 0
AreBytes bytes = AllByRecursion IsByte bytes

chosen : (t : Bool) (a b : List ℕ) → (t ≡ true → AreBytes a) → AreBytes b → AreBytes (if t then a else b)
chosen true a b first second = first refl
chosen false a b first second = second

pub head_are_bytes : (major n : ℕ) → major < 8 → AreBytes (head_bytes major n)
unfolding head_bytes
head_are_bytes major n lt =
    chosen (nat_lt n 24) _ _ (λ small. (omega (arith, ltb-true n 24 small), tt))
    (chosen (nat_lt n (2 ^ 8)) _ _ (λ small. (omega arith, (omega (arith, ltb-true n (2 ^ 8) small), tt)))
    (chosen (nat_lt n (2 ^ 16)) _ _ (λ small. (omega arith, (omega arith, (omega arith, tt))))
    (chosen (nat_lt n (2 ^ 32)) _ _ (λ small. (omega arith, (omega arith, (omega arith, (omega arith, (omega arith, tt))))))
    (omega arith, (omega arith, (omega arith, (omega arith, (omega arith, (omega arith, (omega arith, (omega arith, (omega arith, tt))))))))))))

pub all_append : (a b : List ℕ) → AreBytes a → AreBytes b → AreBytes (a ++ b)
all_append [] b one two = two
all_append (x ∷ a) b one two = (one.0, all_append a b one.1 two)

pub string_are_bytes : (content : List ℕ) → AreBytes content → AreBytes (spell (ByteString content))
string_are_bytes content bytes = all_append (head_bytes 2 (length content)) content (head_are_bytes 2 (length content) (omega arith)) bytes
