-- The argument of a head that was read is spelled by the bytes it was read from, and a spelled argument reads
-- back.
use Rattle.std.proofs.Common.{◌≡◌, ℕ, zero, suc, ◌+◌, ◌*◌, ◌^◌, ◌<◌, ◌≤◌, true, false, ltb, eqb, List, [], ◌∷◌, ◌++◌, length, get_or, take, drop, Ok, refl, sym, ap, subst, arith, inl, inr}
use Rattle.std.specs.List.{AllByRecursion}
use Rattle.std.specs.Int.{Width, w8, w16, w32, w64, byte_len, from_be_bytes, to_be_bytes}
use Rattle.std.proofs.lemmas.Bool.{cases_lt, ltb-false, ltb-true, eqb-true, le-ltb, lt-ltb}
use Rattle.std.proofs.lemmas.List.{take_at, drop_at, take-append-drop, length-append, length-take, get_or-take, get_or-drop, get_or_past}
use Rattle.std.proofs.lemmas.Nat.{be_bytes_2, be_bytes_4, be_bytes_8, from_be_bytes-to_be_bytes_2, from_be_bytes-to_be_bytes_4, from_be_bytes-to_be_bytes_8}
use Rattle.det_cbor.specs.DataItem.{IsByte}
use Rattle.det_cbor.specs.Heads.{head_bytes}
use Rattle.det_cbor.specs.HeadReading.{number_at, argument_at}
use Rattle.det_cbor.specs.ResultLaws.{chosen, ok_pair}

abbrev pub IsBytes : List ℕ → Type 0
IsBytes bytes = (i : ℕ) → get_or bytes i 0 < 256

pub IsBytes-take : (n : ℕ) (bytes : List ℕ) → IsBytes bytes → IsBytes (take n bytes)
IsBytes-take n bytes h i =
    elim (cases_lt i n) [
      | inl lt ↦ rw (get_or-take n bytes i 0 lt) (h i)
      | inr le ↦ rw (get_or_past (take n bytes) i 0 (omega (arith, length-take n bytes))) (omega arith)
    ]

pub IsBytes-drop : (n : ℕ) (bytes : List ℕ) → IsBytes bytes → IsBytes (drop n bytes)
IsBytes-drop n bytes h i = rw get_or-drop (h (n + i))

pub IsBytes-rest : (front rest : List ℕ) → IsBytes (front ++ rest) → IsBytes rest
IsBytes-rest front rest h = subst IsBytes (drop_at front rest (length front) refl) (IsBytes-drop (length front) (front ++ rest) h)

-- IsBytes and AllByRecursion IsByte, which the definitions of items use, say the same
pub all_bytes : (bytes : List ℕ) → IsBytes bytes → AllByRecursion IsByte bytes
all_bytes [] fits = tt
all_bytes (b ∷ bytes) fits = (fits 0, all_bytes bytes (λ i. fits (suc i)))

pub bytes_of_all : (bytes : List ℕ) → AllByRecursion IsByte bytes → IsBytes bytes
bytes_of_all [] all i = omega arith
bytes_of_all (b ∷ bytes) all zero = all.0
bytes_of_all (b ∷ bytes) all (suc i) = bytes_of_all bytes all.1 i

-- ---- numbers

-- the numbers of this width are those below `limit`, and their big-endian bytes read back
pub record IsWide (w : Width) (limit : ℕ) : Type 0 where
  pub len : (n : ℕ) → length (to_be_bytes w n) ≡ byte_len w
  pub back : (bytes : List ℕ) → length bytes ≡ byte_len w → IsBytes bytes
      → to_be_bytes w (from_be_bytes w bytes) ≡ bytes
  pub again : (n : ℕ) → n < limit → from_be_bytes w (to_be_bytes w n) ≡ n
  pub below : (bytes : List ℕ) → IsBytes bytes → from_be_bytes w bytes < limit

pub wide16 : IsWide w16 (2 ^ 16)
wide16 = record {
  len = λ n. refl;
  back = λ bytes len fits. be_bytes_2 bytes _ len fits refl;
  again = λ n lt. from_be_bytes-to_be_bytes_2 n lt;
  below = λ bytes fits. omega (arith, fits 0, fits 1);
}

pub wide32 : IsWide w32 (2 ^ 32)
wide32 = record {
  len = λ n. refl;
  back = λ bytes len fits. be_bytes_4 bytes _ len fits refl;
  again = λ n lt. from_be_bytes-to_be_bytes_4 n lt;
  below = λ bytes fits. omega (arith, fits 0, fits 1, fits 2, fits 3);
}

pub wide64 : IsWide w64 (2 ^ 64)
wide64 = record {
  len = λ n. refl;
  back = λ bytes len fits. be_bytes_8 bytes _ len fits refl;
  again = λ n lt. from_be_bytes-to_be_bytes_8 n lt;
  below = λ bytes fits. omega (arith, fits 0, fits 1, fits 2, fits 3, fits 4, fits 5, fits 6, fits 7);
}

back8 : (bytes : List ℕ) → length bytes ≡ 1 → IsBytes bytes
    → to_be_bytes w8 (from_be_bytes w8 bytes) ≡ bytes
back8 [] len fits = absurd (omega arith)
back8 (b ∷ []) len fits = let lt : b < 256 = fits 0 in ap (λ (x : ℕ). x ∷ []) (omega arith)
back8 (b ∷ c ∷ bytes) len fits = absurd (omega arith)

pub wide8 : IsWide w8 (2 ^ 8)
wide8 = record {
  len = λ n. refl;
  back = back8;
  again = λ n lt. omega arith;
  below = λ bytes fits. omega (arith, fits 0);
}

pub number_takes : (w : Width) (limit least : ℕ) (wide : IsWide w limit) (bytes : List ℕ) (n : ℕ)
    (rest : List ℕ)
    → IsBytes bytes → number_at w least bytes ≡ Ok (n, rest)
    → (bytes ≡ to_be_bytes w n ++ rest) × (n < limit) × (least ≤ n)
number_takes w limit least wide bytes n rest fits e =
    elim (chosen (ltb (length bytes) (byte_len w)) _ _ _ e) [
      | inl (short, none) ↦ absurd cc
      | inr (short, e1) ↦ elim (chosen (ltb (from_be_bytes w (take (byte_len w) bytes)) least) _ _ _ e1) [
        | inl (low, none) ↦ absurd cc
        | inr (low, e2) ↦
            let long : byte_len w ≤ length bytes = ltb-false _ _ short in
            let parts = ok_pair _ _ _ _ e2 in
            let n-is : from_be_bytes w (take (byte_len w) bytes) ≡ n = parts.0 in
            let rest-is : drop (byte_len w) bytes ≡ rest = parts.1 in
            let front : to_be_bytes w n ≡ take (byte_len w) bytes = rw (← n-is) (wide.back (take (byte_len w) bytes) (omega (arith, length-take (byte_len w) bytes)) (IsBytes-take (byte_len w) bytes fits)) in
            let below : from_be_bytes w (take (byte_len w) bytes) < limit = wide.below (take (byte_len w) bytes) (IsBytes-take (byte_len w) bytes fits) in
            let above : least ≤ from_be_bytes w (take (byte_len w) bytes) = ltb-false _ _ low in
            (rw (front, ← rest-is) (sym (take-append-drop (byte_len w) bytes)), rw (← n-is) below, rw (← n-is) above)
      ]
    ]

pub number_again : (w : Width) (limit least : ℕ) (wide : IsWide w limit) (n : ℕ) (rest : List ℕ)
    → n < limit → least ≤ n → number_at w least (to_be_bytes w n ++ rest) ≡ Ok (n, rest)
number_again w limit least wide n rest lt le =
    let len = wide.len n in
    let long : ltb (length (to_be_bytes w n ++ rest)) (byte_len w) ≡ false = le-ltb _ _ (omega (arith, length-append (to_be_bytes w n) rest)) in
    let high : ltb n least ≡ false = le-ltb _ _ le in
    rw (long, take_at (to_be_bytes w n) rest (byte_len w) len, drop_at (to_be_bytes w n) rest (byte_len w) len, wide.again n lt, high) refl

-- ---- arguments

pub head_small : (major n : ℕ) → n < 24 → head_bytes major n ≡ (32 * major + n) ∷ []
unfolding head_bytes
head_small major n lt = let a : ltb n 24 ≡ true = lt-ltb _ _ lt in rw a refl

pub head_8 : (major n : ℕ) → 24 ≤ n → n < 2 ^ 8
    → head_bytes major n ≡ (32 * major + 24) ∷ to_be_bytes w8 n
unfolding head_bytes
head_8 major n ge lt =
    let a : ltb n 24 ≡ false = le-ltb _ _ ge in
    let b : ltb n (2 ^ 8) ≡ true = lt-ltb _ _ lt in
    rw (a, b) refl

-- a number that one byte does not hold is below neither 24 nor 2 ^ 8
past_8 : (n : ℕ) → 2 ^ 8 ≤ n → (ltb n 24 ≡ false) × (ltb n (2 ^ 8) ≡ false)
past_8 n ge = (le-ltb _ _ (omega arith), le-ltb _ _ ge)

pub head_16 : (major n : ℕ) → 2 ^ 8 ≤ n → n < 2 ^ 16
    → head_bytes major n ≡ (32 * major + 25) ∷ to_be_bytes w16 n
unfolding head_bytes
head_16 major n ge lt =
    let past = past_8 n ge in
    let c : ltb n (2 ^ 16) ≡ true = lt-ltb _ _ lt in
    rw (past.0, past.1, c) refl

pub head_32 : (major n : ℕ) → 2 ^ 16 ≤ n → n < 2 ^ 32
    → head_bytes major n ≡ (32 * major + 26) ∷ to_be_bytes w32 n
unfolding head_bytes
head_32 major n ge lt =
    let past = past_8 n (omega arith) in
    let c : ltb n (2 ^ 16) ≡ false = le-ltb _ _ ge in
    let d : ltb n (2 ^ 32) ≡ true = lt-ltb _ _ lt in
    rw (past.0, past.1, c, d) refl

pub head_64 : (major n : ℕ) → 2 ^ 32 ≤ n → n < 2 ^ 64
    → head_bytes major n ≡ (32 * major + 27) ∷ to_be_bytes w64 n
unfolding head_bytes
head_64 major n ge lt =
    let past = past_8 n (omega arith) in
    let c : ltb n (2 ^ 16) ≡ false = le-ltb _ _ (omega arith) in
    let d : ltb n (2 ^ 32) ≡ false = le-ltb _ _ ge in
    rw (past.0, past.1, c, d) refl

-- an argument of this width that was read is spelled by the bytes it was read from
wide_takes : (w : Width) (limit least code major low : ℕ) (wide : IsWide w limit) → limit ≤ 2 ^ 64
    → ((v : ℕ) → least ≤ v → v < limit → head_bytes major v ≡ (32 * major + code) ∷ to_be_bytes w v)
    → (bytes : List ℕ) (n : ℕ) (rest : List ℕ) → IsBytes bytes → low ≡ code → number_at w least bytes ≡ Ok (n, rest) → ((32 * major + low) ∷ bytes ≡ head_bytes major n ++ rest) × (n < 2 ^ 64)
wide_takes w limit least code major low wide small shape bytes n rest fits is e =
    let t = number_takes w limit least wide bytes n rest fits e in
    let head : head_bytes major n ≡ (32 * major + code) ∷ to_be_bytes w n = shape n t.2 t.1 in
    let parts : bytes ≡ to_be_bytes w n ++ rest = t.0 in
    let below : n < limit = t.1 in
    (rw (head, is, ← parts) refl, omega arith)

-- an argument that was read is spelled by the bytes it was read from, after a first byte of any major type
pub argument_takes : (major low : ℕ) (bytes : List ℕ) (n : ℕ) (rest : List ℕ) → IsBytes bytes
    → argument_at low bytes ≡ Ok (n, rest)
    → ((32 * major + low) ∷ bytes ≡ head_bytes major n ++ rest) × (n < 2 ^ 64)
unfolding argument_at
argument_takes major low bytes n rest fits e =
    elim (chosen (ltb low 24) _ _ _ e) [
      | inl (is, e1) ↦
          let parts = ok_pair _ _ _ _ e1 in
          let small : low < 24 = ltb-true _ _ is in
          let head : head_bytes major low ≡ (32 * major + low) ∷ [] = head_small major low small in
          (rw (← parts.0, ← parts.1, head) refl, rw (← parts.0) (omega arith))
      | inr (other, e1) ↦ elim (chosen (eqb low 24) _ _ _ e1) [
        | inl (is, e2) ↦ wide_takes w8 (2 ^ 8) 24 24 major low wide8 (omega arith) (head_8 major) bytes n rest fits (eqb-true _ _ is) e2
        | inr (other, e2) ↦ elim (chosen (eqb low 25) _ _ _ e2) [
          | inl (is, e3) ↦ wide_takes w16 (2 ^ 16) (2 ^ 8) 25 major low wide16 (omega arith) (head_16 major) bytes n rest fits (eqb-true _ _ is) e3
          | inr (other, e3) ↦ elim (chosen (eqb low 26) _ _ _ e3) [
            | inl (is, e4) ↦ wide_takes w32 (2 ^ 32) (2 ^ 16) 26 major low wide32 (omega arith) (head_32 major) bytes n rest fits (eqb-true _ _ is) e4
            | inr (other, e4) ↦ elim (chosen (eqb low 27) _ _ _ e4) [
              | inl (is, e5) ↦ wide_takes w64 (2 ^ 64) (2 ^ 32) 27 major low wide64 (omega arith) (head_64 major) bytes n rest fits (eqb-true _ _ is) e5
              | inr (other, e5) ↦ elim (chosen (eqb low 31) _ _ _ e5) [
                | inl (is, never) ↦ absurd cc
                | inr (other, never) ↦ absurd cc
              ]
            ]
          ]
        ]
      ]
    ]

-- how a head begins, and that reading gives its argument back
pub record ReadsAgain (major n : ℕ) (rest : List ℕ) : Type 0 where
  pub low : ℕ
  pub bytes : List ℕ
  pub low_fits : low < 32
  pub is : head_bytes major n ++ rest ≡ (32 * major + low) ∷ bytes
  pub again : argument_at low bytes ≡ Ok (n, rest)

pub argument_again : (major n : ℕ) (rest : List ℕ) → n < 2 ^ 64 → ReadsAgain major n rest
unfolding argument_at
argument_again major n rest lt =
    elim (cases_lt n 24) [
      | inl a ↦ let t : ltb n 24 ≡ true = lt-ltb _ _ a in record { low = n; bytes = rest; low_fits = omega arith; is = rw (head_small major n a) refl; again = rw t refl }
      | inr a ↦ elim (cases_lt n (2 ^ 8)) [
        | inl b ↦ record { low = 24; bytes = to_be_bytes w8 n ++ rest; low_fits = omega arith; is = rw (head_8 major n a b) refl; again = number_again w8 (2 ^ 8) 24 wide8 n rest b a }
        | inr b ↦ elim (cases_lt n (2 ^ 16)) [
          | inl c ↦ record { low = 25; bytes = to_be_bytes w16 n ++ rest; low_fits = omega arith; is = rw (head_16 major n b c) refl; again = number_again w16 (2 ^ 16) (2 ^ 8) wide16 n rest c b }
          | inr c ↦ elim (cases_lt n (2 ^ 32)) [
            | inl d ↦ record { low = 26; bytes = to_be_bytes w32 n ++ rest; low_fits = omega arith; is = rw (head_32 major n c d) refl; again = number_again w32 (2 ^ 32) (2 ^ 16) wide32 n rest d c }
            | inr d ↦ record { low = 27; bytes = to_be_bytes w64 n ++ rest; low_fits = omega arith; is = rw (head_64 major n d lt) refl; again = number_again w64 (2 ^ 64) (2 ^ 32) wide64 n rest lt d }
          ]
        ]
      ]
    ]

-- a head takes one to nine bytes
pub head_length : (major n : ℕ) → n < 2 ^ 64
    → (1 ≤ length (head_bytes major n)) × (length (head_bytes major n) ≤ 9)
head_length major n lt =
    elim (cases_lt n 24) [
      | inl a ↦ rw (head_small major n a) (omega arith, omega arith)
      | inr a ↦ elim (cases_lt n (2 ^ 8)) [
        | inl b ↦ rw (head_8 major n a b) (omega arith, omega arith)
        | inr b ↦ elim (cases_lt n (2 ^ 16)) [
          | inl c ↦ rw (head_16 major n b c) (omega arith, omega arith)
          | inr c ↦ elim (cases_lt n (2 ^ 32)) [
            | inl d ↦ rw (head_32 major n c d) (omega arith, omega arith)
            | inr d ↦ rw (head_64 major n d lt) (omega arith, omega arith)
          ]
        ]
      ]
    ]
