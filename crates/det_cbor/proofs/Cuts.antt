-- Two lists of bytes that differ before either ends, or are equal. What follows them matters only if they are
-- equal.
use Rattle.std.proofs.Common.{◌≡◌, ℕ, zero, suc, ◌+◌, ◌*◌, ◌/◌, ◌%◌, ◌^◌, ◌<◌, Ordering, Less, Equal, Greater, List, [], ◌∷◌, ◌++◌, length, refl, sym, ap, ◌∙◌, append_assoc, arith, inl, inr}
use Rattle.std.specs.Int.{byte_at, bytes_high_first}
use Rattle.std.specs.Ordering.{ordering_then, nat_cmp}
use Rattle.std.specs.Cmp.Lexicographic.{slice_cmp}
use Rattle.std.proofs.lemmas.Bool.{cases_lt}
use Rattle.std.proofs.lemmas.List.{append-nil}
use Rattle.std.proofs.lemmas.Bool.Decides.{nat_tests}
use Rattle.std.proofs.lemmas.Nat.{mul-add-lt, mod-mul-add, div-add-mod', mod_below}
use Rattle.std.proofs.Math.Nat.{mul_comm, mul_assoc, add-mul, pow-suc, one-le-pow}

abbrev pub bytewise : List ℕ → List ℕ → Ordering
bytewise = slice_cmp nat_cmp

pub record Cuts (order : Ordering) (xs ys : List ℕ) : Type 0 where
  pub cut : (r s : List ℕ) → bytewise (xs ++ r) (ys ++ s) ≡ ordering_then order (bytewise r s)

pub then_assoc : (a b c : Ordering) → ordering_then (ordering_then a b) c ≡ ordering_then a (ordering_then b c)
then_assoc Less b c = refl
then_assoc Equal b c = refl
then_assoc Greater b c = refl

pub then_equal : (a : Ordering) → ordering_then a Equal ≡ a
then_equal Less = refl
then_equal Equal = refl
then_equal Greater = refl

pub first_decides : (a b : Ordering) → (a ≡ Equal → ⊥) → ordering_then a b ≡ a
first_decides Less b e = refl
first_decides Equal b e = absurd (e refl)
first_decides Greater b e = refl

pub cmp_same : (n : ℕ) → nat_cmp n n ≡ Equal
cmp_same n = grind (arith, nat_tests)

pub cmp_less : (m n : ℕ) → m < n → nat_cmp m n ≡ Less
cmp_less m n h = grind (arith, nat_tests)

pub cmp_greater : (m n : ℕ) → n < m → nat_cmp m n ≡ Greater
cmp_greater m n h = grind (arith, nat_tests)

-- ---- composing cuts

pub Cuts-order : (o : Ordering) (xs ys : List ℕ) → Cuts o xs ys → bytewise xs ys ≡ o
Cuts-order o xs ys h =
    let e : bytewise (xs ++ []) (ys ++ []) ≡ ordering_then o Equal = h.cut [] [] in
    let f : bytewise xs ys ≡ ordering_then o Equal = simp append-nil at e in f ∙ then_equal o

pub Cuts-nothing : Cuts Equal [] []
Cuts-nothing = record { cut = λ r s. refl }

follow : (o p : Ordering) (xs ys us vs r s : List ℕ) → Cuts o xs ys → (o ≡ Equal → Cuts p us vs) → ordering_then o (bytewise (us ++ r) (vs ++ s)) ≡ ordering_then (ordering_then o p) (bytewise r s)
follow Less p xs ys us vs r s first next = refl
follow Equal p xs ys us vs r s first next = (next refl).cut r s
follow Greater p xs ys us vs r s first next = refl

pub Cuts-append : (o p : Ordering) (xs ys us vs : List ℕ) → Cuts o xs ys → (o ≡ Equal → Cuts p us vs) → Cuts (ordering_then o p) (xs ++ us) (ys ++ vs)
Cuts-append o p xs ys us vs first next =
    record { cut = λ r s. rw (append_assoc xs us r, append_assoc ys vs s, first.cut (us ++ r) (vs ++ s)) (follow o p xs ys us vs r s first next) }

pub Cuts-first : (x y : ℕ) (o : Ordering) (xs ys : List ℕ) → (x ≡ y → Cuts o xs ys) → Cuts (ordering_then (nat_cmp x y) o) (x ∷ xs) (y ∷ ys)
Cuts-first x y o xs ys next =
    elim (cases_lt x y) [
      | inl lt ↦ let e = cmp_less x y lt in record { cut = λ r s. rw e refl }
      | inr ge ↦ elim (cases_lt y x) [
        | inl lt ↦ let e = cmp_greater x y lt in record { cut = λ r s. rw e refl }
        | inr le ↦
            let same : x ≡ y = omega arith in
            let e : nat_cmp x y ≡ Equal = ap (nat_cmp x) (sym same) ∙ cmp_same x in
            record { cut = λ r s. rw e ((next same).cut r s) }
      ]
    ]

-- ---- strings of one length

pub Cuts-string : (xs ys : List ℕ) → length xs ≡ length ys → Cuts (bytewise xs ys) xs ys
Cuts-string [] [] e = Cuts-nothing
Cuts-string [] (y ∷ ys) e = absurd (omega arith)
Cuts-string (x ∷ xs) [] e = absurd (omega arith)
Cuts-string (x ∷ xs) (y ∷ ys) e =
    let same : length xs ≡ length ys = omega arith in
    record { cut = λ r s. rw ((Cuts-string xs ys same).cut r s) (sym (then_assoc (nat_cmp x y) (bytewise xs ys) (bytewise r s))) }

-- ---- numbers of one width, the highest byte first

digits_less : (base a b x y : ℕ) → x < base → a < b → a * base + x < b * base + y
digits_less base a b x y x-lt lt = let e : base * b ≡ b * base = mul_comm base b in omega (arith, mul-add-lt a base x b lt x-lt, e)

digits_even : (base a b x y : ℕ) → x < base → y < base → a ≡ b → nat_cmp x y ≡ nat_cmp (a * base + x) (b * base + y)
digits_even base a b x y x-lt y-lt e = rw e (shifted (b * base) x y)
  where
    shifted : (n x y : ℕ) → nat_cmp x y ≡ nat_cmp (n + x) (n + y)
    shifted n x y = grind (arith, nat_tests)

pub digits : (base a b x y : ℕ) → x < base → y < base → ordering_then (nat_cmp a b) (nat_cmp x y) ≡ nat_cmp (a * base + x) (b * base + y)
digits base a b x y x-lt y-lt =
    elim (cases_lt a b) [
      | inl lt ↦ rw (cmp_less a b lt, cmp_less (a * base + x) (b * base + y) (digits_less base a b x y x-lt lt)) refl
      | inr ge ↦ elim (cases_lt b a) [
        | inl lt ↦ rw (cmp_greater a b lt, cmp_greater (a * base + x) (b * base + y) (digits_less base b a y x y-lt lt)) refl
        | inr le ↦ let e : a ≡ b = omega arith in rw (e, cmp_same b) (digits_even base b b x y x-lt y-lt refl)
      ]
    ]

split_number : (n base : ℕ) → 0 < base → n % (base * 256) ≡ (n / base % 256) * base + n % base
split_number n base pos =
    let q = n / base / 256 in
    let a = n / base % 256 in
    let r = n % base in
    let high : q * 256 + a ≡ n / base = div-add-mod' (n / base) 256 in
    let low : n / base * base + r ≡ n = div-add-mod' n base in
    let spread : (q * 256 + a) * base ≡ q * (base * 256) + a * base = rw (add-mul (q * 256) a base, mul_assoc q 256 base, mul_comm 256 base) refl in
    let whole : q * (base * 256) + (a * base + r) ≡ n = omega (arith, spread, ap (λ (m : ℕ). m * base) high, low) in
    let a-lt : a < 256 = mod_below (n / base) 256 (omega arith) in
    let r-lt : r < base = mod_below n base pos in
    ap (λ (m : ℕ). m % (base * 256)) (sym whole) ∙ mod-mul-add q (base * 256) (a * base + r) (mul-add-lt a base r 256 a-lt r-lt)

low_bytes : (k n : ℕ) → n % 256 ^ (suc k) ≡ byte_at k n * 256 ^ k + n % 256 ^ k
low_bytes zero n = omega arith
low_bytes (suc k) n = rw (pow-suc 256 (suc k)) (split_number n (256 ^ suc k) (one-le-pow (suc k) 256 (omega arith)))

pub Cuts-number : (k m n : ℕ) → Cuts (nat_cmp (m % 256 ^ k) (n % 256 ^ k)) (bytes_high_first k m) (bytes_high_first k n)
Cuts-number zero m n =
    let a : m % 256 ^ 0 ≡ 0 = omega arith in
    let b : n % 256 ^ 0 ≡ 0 = omega arith in
    let e : nat_cmp (m % 256 ^ 0) (n % 256 ^ 0) ≡ Equal = rw (a, b) refl in
    rw e Cuts-nothing
Cuts-number (suc k) m n =
    let pos : 0 < 256 ^ k = one-le-pow k 256 (omega arith) in
    let joined : ordering_then (nat_cmp (byte_at k m) (byte_at k n)) (nat_cmp (m % 256 ^ k) (n % 256 ^ k)) ≡ nat_cmp (m % 256 ^ suc k) (n % 256 ^ suc k) =
    digits (256 ^ k) (byte_at k m) (byte_at k n) (m % 256 ^ k) (n % 256 ^ k) (mod_below m (256 ^ k) pos) (mod_below n (256 ^ k) pos)
    ∙ (λ i. nat_cmp (sym (low_bytes k m) i) (sym (low_bytes k n) i)) in
    record {
      cut = λ r s.
          ap (ordering_then (nat_cmp (byte_at k m) (byte_at k n))) ((Cuts-number k m n).cut r s)
          ∙ sym (then_assoc (nat_cmp (byte_at k m) (byte_at k n)) (nat_cmp (m % 256 ^ k) (n % 256 ^ k)) (bytewise r s))
          ∙ ap (λ (o : Ordering). ordering_then o (bytewise r s)) joined;
    }
