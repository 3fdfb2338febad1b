-- The capped sum or product of capped numbers is the capped sum or product of the numbers.
use Rattle.std.proofs.Common.{◌≡◌, ℕ, zero, suc, ◌+◌, ◌*◌, ◌-◌, ◌^◌, ◌≤◌, ◌<◌, min, ◌⊎◌, inl, inr, refl, ◌∙◌, arith, mul_comm}
use Rattle.std.proofs.lemmas.Bool.{cases_lt}
use Rattle.std.proofs.lemmas.Nat.{mul-le}
use Rattle.std.proofs.Math.Nat.{le-mul_of_pos_right}
use Rattle.suit_commands.specs.Capped.{capped}

pub capped_small : (n : ℕ) → n < 2 ^ 64 → capped n ≡ n
unfolding capped
capped_small n small = omega arith

pub capped_below : (n : ℕ) → capped n < 2 ^ 64
unfolding capped
capped_below n = omega arith

pub capped_plus : (a b : ℕ) → capped (capped a + capped b) ≡ capped (a + b)
unfolding capped
capped_plus a b = omega arith

pub capped_plus_right : (a b : ℕ) → capped (a + capped b) ≡ capped (a + b)
unfolding capped
capped_plus_right a b = omega arith

-- a capped sum of three, of which one is capped before
pub capped_three : (a b c : ℕ) → capped (capped (a + capped b) + c) ≡ capped (a + (b + c))
unfolding capped
capped_three a b c = omega arith

-- products that are capped at any largest number
small_times : (m a b : ℕ) → a ≤ m → min (min a m * b) m ≡ min (a * b) m
small_times m a b h = let same : min a m ≡ a = omega arith in rw same refl

large_times : (m a b : ℕ) → m ≤ a → min (min a m * suc b) m ≡ min (a * suc b) m
large_times m a b h =
    let same : min a m ≡ m = omega arith in
    let less : m * suc b ≤ a * suc b = mul-le m (suc b) a (suc b) h (omega arith) in
    let more : m ≤ m * suc b = le-mul_of_pos_right m (omega arith) in
    rw same (omega (arith, less, more))

side : (a m : ℕ) → a ≤ m ⊎ m ≤ a
side a m = elim (cases_lt a m) [ inl h ↦ inl (omega (arith, h)) | inr h ↦ inr h ]

min_times_left : (m a b : ℕ) → a ≤ m ⊎ m ≤ a → min (min a m * b) m ≡ min (a * b) m
min_times_left m a b (inl h) = small_times m a b h
min_times_left m a zero (inr h) = omega arith
min_times_left m a (suc b) (inr h) = large_times m a b h

pub capped_times_left : (a b : ℕ) → capped (capped a * b) ≡ capped (a * b)
unfolding capped
capped_times_left a b = min_times_left (2 ^ 64 - 1) a b (side a (2 ^ 64 - 1))

pub capped_times_right : (a b : ℕ) → capped (a * capped b) ≡ capped (a * b)
capped_times_right a b = rw (mul_comm a (capped b), mul_comm a b) (capped_times_left b a)

pub capped_times : (a b : ℕ) → capped (capped a * capped b) ≡ capped (a * b)
capped_times a b = capped_times_left a (capped b) ∙ capped_times_right a b

-- ---- sums and products of answers

pub plus_is : (x y n a b : ℕ) → x ≡ capped a → y ≡ capped b → n ≡ capped (x + y) → n ≡ capped (a + b)
plus_is x y n a b x_is y_is n_is = rw (n_is, x_is, y_is) (capped_plus a b)

pub times_is : (x y n a b : ℕ) → x ≡ capped a → y ≡ capped b → n ≡ capped (x * y) → n ≡ capped (a * b)
times_is x y n a b x_is y_is n_is = rw (n_is, x_is, y_is) (capped_times a b)

-- three members, each after the sequence that they share
pub three_is :
    (op : ℕ → ℕ → ℕ) → ((x y n a b : ℕ) → x ≡ capped a → y ≡ capped b → n ≡ capped (op x y) → n ≡ capped (op a b))
    → (a b c d : ℕ) → {w x y z f g h k n : ℕ} → w ≡ capped a → x ≡ capped b → y ≡ capped c → z ≡ capped d
    → f ≡ capped (op w x) → g ≡ capped (op w y) → h ≡ capped (op w z) → k ≡ capped (op f g) → n ≡ capped (op k h)
    → n ≡ capped (op (op (op a b) (op a c)) (op a d))
three_is op is a b c d w_is x_is y_is z_is f_is g_is h_is k_is n_is =
    is _ _ _ _ _ (is _ _ _ _ _ (is _ _ _ _ _ w_is x_is f_is) (is _ _ _ _ _ w_is y_is g_is) k_is) (is _ _ _ _ _ w_is z_is h_is) n_is
