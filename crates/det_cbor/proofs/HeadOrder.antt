-- Heads are ordered bytewise as their major types and arguments are.
use Rattle.std.proofs.Common.{◌≡◌, ℕ, ◌+◌, ◌*◌, ◌%◌, ◌^◌, ◌<◌, ◌≤◌, Ordering, ◌∷◌, refl, sym, ap, subst, ◌∙◌, arith, inl, inr}
use Rattle.std.specs.Int.{bytes_high_first}
use Rattle.std.specs.Ordering.{ordering_then, nat_cmp}
use Rattle.std.proofs.lemmas.Bool.{cases_lt, le-ltb, lt-ltb}
use Rattle.std.proofs.Math.Nat.{mod-eq_of_lt, mul_comm}
use Rattle.det_cbor.specs.Heads.{head_bytes}
use Rattle.det_cbor.proofs.Cuts.{Cuts, Cuts-number, Cuts-first, digits, then_assoc, cmp_same, cmp_less, cmp_greater}

-- an argument in its shortest form: the low five bits of the first byte, and how many bytes follow
data Shape (n low width : ℕ) : Type 0 where
  Short : n < 24 → low ≡ n → width ≡ 0 → Shape n low width
  Byte : 24 ≤ n → n < 256 → low ≡ 24 → width ≡ 1 → Shape n low width
  Two : 256 ≤ n → n < 65536 → low ≡ 25 → width ≡ 2 → Shape n low width
  Four : 65536 ≤ n → n < 4294967296 → low ≡ 26 → width ≡ 4 → Shape n low width
  Eight : 4294967296 ≤ n → n < 18446744073709551616 → low ≡ 27 → width ≡ 8 → Shape n low width

record Form (n : ℕ) : Type 0 where
  pub low : ℕ
  pub width : ℕ
  pub shape : Shape n low width
  pub is : (major : ℕ) → head_bytes major n ≡ (32 * major + low) ∷ bytes_high_first width n

form : (n : ℕ) → n < 2 ^ 64 → Form n
unfolding head_bytes
form n fits =
    elim (cases_lt n 24) [
      | inl a ↦ record { low = n; width = 0; shape = Short a refl refl; is = λ major. rw (lt-ltb n 24 a) refl }
      | inr a ↦ elim (cases_lt n 256) [
        | inl b ↦ record { low = 24; width = 1; shape = Byte a b refl refl; is = λ major. rw (le-ltb n 24 a, lt-ltb n 256 b) refl }
        | inr b ↦ elim (cases_lt n 65536) [
          | inl c ↦ record { low = 25; width = 2; shape = Two b c refl refl; is = λ major. rw (le-ltb n 24 a, le-ltb n 256 b, lt-ltb n 65536 c) refl }
          | inr c ↦ elim (cases_lt n 4294967296) [
            | inl d ↦ record { low = 26; width = 4; shape = Four c d refl refl; is = λ major. rw (le-ltb n 24 a, le-ltb n 256 b, le-ltb n 65536 c, lt-ltb n 4294967296 d) refl }
            | inr d ↦ record { low = 27; width = 8; shape = Eight d fits refl refl; is = λ major. rw (le-ltb n 24 a, le-ltb n 256 b, le-ltb n 65536 c, le-ltb n 4294967296 d) refl }
          ]
        ]
      ]
    ]

data Compared (m n low low' width width' : ℕ) : Type 0 where
  Before : low < low' → m < n → Compared m n low low' width width'
  After : low' < low → n < m → Compared m n low low' width width'
  Level : low ≡ low' → width ≡ width' → nat_cmp (m % 256 ^ width) (n % 256 ^ width) ≡ nat_cmp m n → Compared m n low low' width width'

level : (m n width : ℕ) → m < 256 ^ width → n < 256 ^ width → nat_cmp (m % 256 ^ width) (n % 256 ^ width) ≡ nat_cmp m n
level m n width m-lt n-lt = rw (mod-eq_of_lt m-lt, mod-eq_of_lt n-lt) refl

short : (m n low low' width width' : ℕ) → low ≡ m → low' ≡ n → width ≡ 0 → width' ≡ 0 → Compared m n low low' width width'
short m n low low' width width' a b c d =
    elim (cases_lt m n) [
      | inl lt ↦ Before (omega arith) (omega arith)
      | inr ge ↦ elim (cases_lt n m) [
        | inl lt ↦ After (omega arith) (omega arith)
        | inr le ↦ let e : m ≡ n = omega arith in Level (omega arith) (omega arith) (rw (e, cmp_same n, cmp_same (n % 256 ^ width)) refl)
      ]
    ]

compared : (m n low low' width width' : ℕ) → Shape m low width → Shape n low' width' → Compared m n low low' width width'
compared m n low low' width width' (Short p e w) (Short r f v) = short m n low low' width width' e f w v
compared m n low low' width width' (Short p e w) (Byte r s f v) = Before (omega arith) (omega arith)
compared m n low low' width width' (Short p e w) (Two r s f v) = Before (omega arith) (omega arith)
compared m n low low' width width' (Short p e w) (Four r s f v) = Before (omega arith) (omega arith)
compared m n low low' width width' (Short p e w) (Eight r s f v) = Before (omega arith) (omega arith)
compared m n low low' width width' (Byte p q e w) (Short r f v) = After (omega arith) (omega arith)
compared m n low low' width width' (Byte p q e w) (Byte r s f v) = let m-lt : m < 256 ^ 1 = q in let n-lt : n < 256 ^ 1 = s in Level (omega arith) (omega arith) (rw w (level m n 1 m-lt n-lt))
compared m n low low' width width' (Byte p q e w) (Two r s f v) = Before (omega arith) (omega arith)
compared m n low low' width width' (Byte p q e w) (Four r s f v) = Before (omega arith) (omega arith)
compared m n low low' width width' (Byte p q e w) (Eight r s f v) = Before (omega arith) (omega arith)
compared m n low low' width width' (Two p q e w) (Short r f v) = After (omega arith) (omega arith)
compared m n low low' width width' (Two p q e w) (Byte r s f v) = After (omega arith) (omega arith)
compared m n low low' width width' (Two p q e w) (Two r s f v) = let m-lt : m < 256 ^ 2 = q in let n-lt : n < 256 ^ 2 = s in Level (omega arith) (omega arith) (rw w (level m n 2 m-lt n-lt))
compared m n low low' width width' (Two p q e w) (Four r s f v) = Before (omega arith) (omega arith)
compared m n low low' width width' (Two p q e w) (Eight r s f v) = Before (omega arith) (omega arith)
compared m n low low' width width' (Four p q e w) (Short r f v) = After (omega arith) (omega arith)
compared m n low low' width width' (Four p q e w) (Byte r s f v) = After (omega arith) (omega arith)
compared m n low low' width width' (Four p q e w) (Two r s f v) = After (omega arith) (omega arith)
compared m n low low' width width' (Four p q e w) (Four r s f v) = let m-lt : m < 256 ^ 4 = q in let n-lt : n < 256 ^ 4 = s in Level (omega arith) (omega arith) (rw w (level m n 4 m-lt n-lt))
compared m n low low' width width' (Four p q e w) (Eight r s f v) = Before (omega arith) (omega arith)
compared m n low low' width width' (Eight p q e w) (Short r f v) = After (omega arith) (omega arith)
compared m n low low' width width' (Eight p q e w) (Byte r s f v) = After (omega arith) (omega arith)
compared m n low low' width width' (Eight p q e w) (Two r s f v) = After (omega arith) (omega arith)
compared m n low low' width width' (Eight p q e w) (Four r s f v) = After (omega arith) (omega arith)
compared m n low low' width width' (Eight p q e w) (Eight r s f v) = let m-lt : m < 256 ^ 8 = q in let n-lt : n < 256 ^ 8 = s in Level (omega arith) (omega arith) (rw w (level m n 8 m-lt n-lt))

low_small : (n low width : ℕ) → Shape n low width → low < 32
low_small n low width (Short p e w) = omega arith
low_small n low width (Byte p q e w) = omega arith
low_small n low width (Two p q e w) = omega arith
low_small n low width (Four p q e w) = omega arith
low_small n low width (Eight p q e w) = omega arith

lows_decide : (m n low low' width width' : ℕ) → Compared m n low low' width width' → ordering_then (nat_cmp low low') (nat_cmp m n) ≡ nat_cmp m n
lows_decide m n low low' width width' (Before p q) = rw (cmp_less low low' p, cmp_less m n q) refl
lows_decide m n low low' width width' (After p q) = rw (cmp_greater low low' p, cmp_greater m n q) refl
lows_decide m n low low' width width' (Level p q e) = rw (p, cmp_same low') refl

bytes_decide : (m n low low' width width' : ℕ) → Compared m n low low' width width' → low ≡ low' → Cuts (nat_cmp m n) (bytes_high_first width m) (bytes_high_first width' n)
bytes_decide m n low low' width width' (Before p q) same = absurd (omega arith)
bytes_decide m n low low' width width' (After p q) same = absurd (omega arith)
bytes_decide m n low low' width width' (Level p q e) same =
    subst (λ (k : ℕ). Cuts (nat_cmp m n) (bytes_high_first width m) (bytes_high_first k n)) q
    (subst (λ (o : Ordering). Cuts o (bytes_high_first width m) (bytes_high_first width n)) e (Cuts-number width m n))

first_bytes : (a b x y : ℕ) → x < 32 → y < 32 → nat_cmp (32 * a + x) (32 * b + y) ≡ ordering_then (nat_cmp a b) (nat_cmp x y)
first_bytes a b x y x-lt y-lt = rw (mul_comm 32 a, mul_comm 32 b) (sym (digits 32 a b x y x-lt y-lt))

-- two heads are told apart by their major types, and then by their arguments
pub Cuts-head : (a b m n : ℕ) → m < 2 ^ 64 → n < 2 ^ 64 → Cuts (ordering_then (nat_cmp a b) (nat_cmp m n)) (head_bytes a m) (head_bytes b n)
Cuts-head a b m n m-fits n-fits =
    let f = form m m-fits in
    let g = form n n-fits in
    let c = compared m n f.low g.low f.width g.width f.shape g.shape in
    let f-low : f.low < 32 = low_small m f.low f.width f.shape in
    let g-low : g.low < 32 = low_small n g.low g.width g.shape in
    let first : nat_cmp (32 * a + f.low) (32 * b + g.low) ≡ ordering_then (nat_cmp a b) (nat_cmp f.low g.low) = first_bytes a b f.low g.low f-low g-low in
    let order : ordering_then (nat_cmp (32 * a + f.low) (32 * b + g.low)) (nat_cmp m n) ≡ ordering_then (nat_cmp a b) (nat_cmp m n) =
    ap (λ (o : Ordering). ordering_then o (nat_cmp m n)) first
    ∙ then_assoc (nat_cmp a b) (nat_cmp f.low g.low) (nat_cmp m n)
    ∙ ap (ordering_then (nat_cmp a b)) (lows_decide m n f.low g.low f.width g.width c) in
    let bytes : Cuts (ordering_then (nat_cmp (32 * a + f.low) (32 * b + g.low)) (nat_cmp m n)) ((32 * a + f.low) ∷ bytes_high_first f.width m) ((32 * b + g.low) ∷ bytes_high_first g.width n) =
    Cuts-first (32 * a + f.low) (32 * b + g.low) (nat_cmp m n) (bytes_high_first f.width m) (bytes_high_first g.width n)
    (λ same. bytes_decide m n f.low g.low f.width g.width c (omega arith)) in
    rw (f.is a, g.is b, ← order) bytes
