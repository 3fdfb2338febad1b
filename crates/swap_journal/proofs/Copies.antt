-- Each copy leaves the recovered contents as they are.
use Rattle.std.proofs.Common.{◌≡◌, ◌⊎◌, inl, inr, ⊎_elim, ◌<◌, ◌≤◌, ℕ, ◌+◌, ◌-◌, ◌*◌, ◌/◌, ◌%◌, zero, suc, List, map, length, get_or, refl, sym, ◌∙◌, ap, subst, arith}
use Rattle.std.proofs.lemmas.Bool.{cases_lt, cases_order, lt-ltb, le-ltb, le-leb, lt-leb}
use Rattle.std.proofs.Math.Nat.{mul-div-le, lt-mul-div-succ, mod-eq-sub-mul-div}
use Rattle.std.specs.List.{range_with_len, slice_range}
use Rattle.std.proofs.lemmas.List.{ext_get_or}
use Rattle.std.proofs.lemmas.List.FromFn.{length-map-range_with_len, get_or-map-range_with_len}
use Rattle.std.proofs.lemmas.List.Edits.{length-between, get_or-between}
use Rattle.suit_edge.specs.Ranges.{Outside, SameOn}
use Rattle.swap_journal.specs.declared.contents.Exchange.{Exchange}
use Rattle.swap_journal.specs.Exchanges.{AreApart, FitsDisk, IsCopy, RecoversSame, longest, copies, copy_from, copy_to, copy_size, piece_from, piece_to, piece_size, first_byte, second_byte, first_recovered, second_recovered}
use Rattle.swap_journal.specs.CopyLaws.{CopyLaws}

-- the recovered contents are the same, byte by byte
pub record BytesSame (x : Exchange) (k : ℕ) (old : List ℕ) (m : ℕ) (new : List ℕ) : Type 0 where
  pub first : (i : ℕ) → i < longest x → first_byte x m new i ≡ first_byte x k old i
  pub second : (i : ℕ) → i < longest x → second_byte x m new i ≡ second_byte x k old i

-- ---- which byte is recovered

pub first_done : (x : Exchange) (k : ℕ) (l : List ℕ) (i : ℕ) → 3 * (i / 4096) + 1 < k
    → first_byte x k l i ≡ get_or l (x.first + i) 0
first_done x k l i h = rw (lt-ltb (3 * (i / 4096) + 1) k h) refl

pub first_left : (x : Exchange) (k : ℕ) (l : List ℕ) (i : ℕ) → k ≤ 3 * (i / 4096) + 1
    → first_byte x k l i ≡ get_or l (x.second + i) 0
first_left x k l i h = rw (le-ltb (3 * (i / 4096) + 1) k h) refl

pub second_left : (x : Exchange) (k : ℕ) (l : List ℕ) (i : ℕ) → k ≤ 3 * (i / 4096)
    → second_byte x k l i ≡ get_or l (x.first + i) 0
second_left x k l i h = rw (le-leb k (3 * (i / 4096)) h) refl

pub second_held : (x : Exchange) (k : ℕ) (l : List ℕ) (i : ℕ) → 3 * (i / 4096) < k → k ≤ 3 * (i / 4096) + 2
    → second_byte x k l i ≡ get_or l (x.scratch + i % 4096) 0
second_held x k l i low high = rw (lt-leb k (3 * (i / 4096)) low) (rw (le-leb k (3 * (i / 4096) + 2) high) refl)

pub second_done : (x : Exchange) (k : ℕ) (l : List ℕ) (i : ℕ) → 3 * (i / 4096) + 2 < k
    → second_byte x k l i ≡ get_or l (x.second + i) 0
second_done x k l i h = let low : 3 * (i / 4096) < k = omega arith in rw (lt-leb k (3 * (i / 4096)) low) (rw (lt-leb k (3 * (i / 4096) + 2) h) refl)

-- ---- the same byte before and after

module _ (x : Exchange) (old new : List ℕ) (k m : ℕ) (i : ℕ) where
  first_both : 3 * (i / 4096) + 1 < k → 3 * (i / 4096) + 1 < m → get_or new (x.first + i) 0 ≡ get_or old (x.first + i) 0
      → first_byte x m new i ≡ first_byte x k old i
  first_both a b same = first_done x m new i b ∙ same ∙ sym (first_done x k old i a)

  first_none : k ≤ 3 * (i / 4096) + 1 → m ≤ 3 * (i / 4096) + 1 → get_or new (x.second + i) 0 ≡ get_or old (x.second + i) 0
      → first_byte x m new i ≡ first_byte x k old i
  first_none a b same = first_left x m new i b ∙ same ∙ sym (first_left x k old i a)

  second_none : k ≤ 3 * (i / 4096) → m ≤ 3 * (i / 4096) → get_or new (x.first + i) 0 ≡ get_or old (x.first + i) 0
      → second_byte x m new i ≡ second_byte x k old i
  second_none a b same = second_left x m new i b ∙ same ∙ sym (second_left x k old i a)

  second_both : 3 * (i / 4096) + 2 < k → 3 * (i / 4096) + 2 < m → get_or new (x.second + i) 0 ≡ get_or old (x.second + i) 0
      → second_byte x m new i ≡ second_byte x k old i
  second_both a b same = second_done x m new i b ∙ same ∙ sym (second_done x k old i a)

  second_kept : 3 * (i / 4096) < k → k ≤ 3 * (i / 4096) + 2 → 3 * (i / 4096) < m → m ≤ 3 * (i / 4096) + 2
      → get_or new (x.scratch + i % 4096) 0 ≡ get_or old (x.scratch + i % 4096) 0
      → second_byte x m new i ≡ second_byte x k old i
  second_kept a b c d same = second_held x m new i c d ∙ same ∙ sym (second_held x k old i a b)

-- ---- the n-th piece

module _ (x : Exchange) (apart : AreApart x) (n : ℕ) (some : 4096 * n < longest x) (old new : List ℕ) where
  low : (i : ℕ) → 4096 * (i / 4096) ≤ i
  low i = mul-div-le i 4096

  high : (i : ℕ) → i < 4096 * (i / 4096 + 1)
  high i = lt-mul-div-succ i (omega arith)

  rest : (i : ℕ) → i % 4096 ≡ i - 4096 * (i / 4096)
  rest i = mod-eq-sub-mul-div i 4096

  tearing_scratch : SameOn (Outside x.scratch (piece_size x n)) old new → BytesSame x (3 * n) old (3 * n) new
  tearing_scratch same = record {
    first = λ i lt. ⊎_elim
        (λ before. first_both x old new (3 * n) (3 * n) i (omega arith) (omega arith) (same.same (x.first + i) (far_first i lt)))
        (λ behind. first_none x old new (3 * n) (3 * n) i (omega arith) (omega arith) (same.same (x.second + i) (far_second i lt)))
        (cases_lt (i / 4096) n);
    second = λ i lt. ⊎_elim
        (λ before. second_both x old new (3 * n) (3 * n) i (omega arith) (omega arith) (same.same (x.second + i) (far_second i lt)))
        (λ behind. second_none x old new (3 * n) (3 * n) i (omega arith) (omega arith) (same.same (x.first + i) (far_first i lt)))
        (cases_lt (i / 4096) n);
  }
    where
      far_first : (i : ℕ) → i < longest x → Outside x.scratch (piece_size x n) (x.first + i)
      far_first i lt = ⊎_elim (λ h. inl (omega (arith, h, lt))) (λ h. inr (omega (arith, h))) apart.from_first

      far_second : (i : ℕ) → i < longest x → Outside x.scratch (piece_size x n) (x.second + i)
      far_second i lt = ⊎_elim (λ h. inl (omega (arith, h, lt))) (λ h. inr (omega (arith, h))) apart.from_second

  -- a byte of another piece is not in the n-th one
  out_before : (at i : ℕ) → i / 4096 < n → Outside (at + 4096 * n) (piece_size x n) (at + i)
  out_before at i before = inl (omega (arith, high i))

  out_behind : (at i : ℕ) → n < i / 4096 → Outside (at + 4096 * n) (piece_size x n) (at + i)
  out_behind at i behind = inr (omega (arith, low i))

  -- areas that share no byte
  out_of : (p q m i : ℕ) → ((p + longest x ≤ q) ⊎ (q + longest x ≤ p)) → i < longest x
      → Outside (p + 4096 * n) (piece_size x n) (q + i)
  out_of p q m i clear lt = ⊎_elim (λ h. inr (omega (arith, h, some))) (λ h. inl (omega (arith, h, lt))) clear

  out_scratch : (p i : ℕ) → ((p + longest x ≤ x.scratch) ⊎ (x.scratch + 4096 ≤ p))
      → Outside (p + 4096 * n) (piece_size x n) (x.scratch + i % 4096)
  out_scratch p i clear = ⊎_elim (λ h. inr (omega (arith, h, some))) (λ h. inl (omega (arith, h, rest i, high i, low i))) clear

  tearing_first : SameOn (Outside (x.first + 4096 * n) (piece_size x n)) old new → BytesSame x (3 * n + 1) old (3 * n + 1) new
  tearing_first same = record {
    first = λ i lt. ⊎_elim
        (λ before. first_both x old new (3 * n + 1) (3 * n + 1) i (omega arith) (omega arith) (same.same (x.first + i) (out_before x.first i before)))
        (λ behind. first_none x old new (3 * n + 1) (3 * n + 1) i (omega arith) (omega arith) (same.same (x.second + i) (out_of x.first x.second 0 i apart.contents lt)))
        (cases_lt (i / 4096) n);
    second = λ i lt. ⊎_elim
        (λ is. second_kept x old new (3 * n + 1) (3 * n + 1) i (omega arith) (omega arith) (omega arith) (omega arith) (same.same (x.scratch + i % 4096) (out_scratch x.first i apart.from_first)))
        (λ other. ⊎_elim
        (λ before. second_both x old new (3 * n + 1) (3 * n + 1) i (omega arith) (omega arith) (same.same (x.second + i) (out_of x.first x.second 0 i apart.contents lt)))
        (λ behind. second_none x old new (3 * n + 1) (3 * n + 1) i (omega arith) (omega arith) (same.same (x.first + i) (out_behind x.first i behind)))
        other)
        (cases_order (i / 4096) n);
  }

  swapped : (x.second + longest x ≤ x.first) ⊎ (x.first + longest x ≤ x.second)
  swapped = ⊎_elim (λ h. inr h) (λ h. inl h) apart.contents

  tearing_second : SameOn (Outside (x.second + 4096 * n) (piece_size x n)) old new → BytesSame x (3 * n + 2) old (3 * n + 2) new
  tearing_second same = record {
    first = λ i lt. ⊎_elim
        (λ behind. first_none x old new (3 * n + 2) (3 * n + 2) i (omega arith) (omega arith) (same.same (x.second + i) (out_behind x.second i behind)))
        (λ until. first_both x old new (3 * n + 2) (3 * n + 2) i (omega arith) (omega arith) (same.same (x.first + i) (out_of x.second x.first 0 i swapped lt)))
        (cases_lt n (i / 4096));
    second = λ i lt. ⊎_elim
        (λ is. second_kept x old new (3 * n + 2) (3 * n + 2) i (omega arith) (omega arith) (omega arith) (omega arith) (same.same (x.scratch + i % 4096) (out_scratch x.second i apart.from_second)))
        (λ other. ⊎_elim
        (λ before. second_both x old new (3 * n + 2) (3 * n + 2) i (omega arith) (omega arith) (same.same (x.second + i) (out_before x.second i before)))
        (λ behind. second_none x old new (3 * n + 2) (3 * n + 2) i (omega arith) (omega arith) (same.same (x.first + i) (out_of x.second x.first 0 i swapped lt)))
        other)
        (cases_order (i / 4096) n);
  }

  -- the place of a byte of the n-th piece
  at_piece : (p i : ℕ) → i / 4096 ≡ n → p + 4096 * n + i % 4096 ≡ p + i
  at_piece p i is = omega (arith, rest i, low i, is)

  in_piece : (i : ℕ) → i / 4096 ≡ n → i < longest x → i % 4096 < piece_size x n
  in_piece i is lt = omega (arith, rest i, low i, high i, is, lt)

  scratch_clear : (p i : ℕ) → ((p + longest x ≤ x.scratch) ⊎ (x.scratch + 4096 ≤ p)) → i < longest x
      → Outside x.scratch (piece_size x n) (p + i)
  scratch_clear p i clear lt = ⊎_elim (λ h. inl (omega (arith, h, lt))) (λ h. inr (omega (arith, h))) clear

  to_scratch : IsCopy (x.first + 4096 * n) x.scratch (piece_size x n) old new → BytesSame x (3 * n) old (3 * n + 1) new
  to_scratch copy = record {
    first = λ i lt. ⊎_elim
        (λ before. first_both x old new (3 * n) (3 * n + 1) i (omega arith) (omega arith) (copy.apart.same (x.first + i) (scratch_clear x.first i apart.from_first lt)))
        (λ behind. first_none x old new (3 * n) (3 * n + 1) i (omega arith) (omega arith) (copy.apart.same (x.second + i) (scratch_clear x.second i apart.from_second lt)))
        (cases_lt (i / 4096) n);
    second = λ i lt. ⊎_elim
        (λ is. second_held x (3 * n + 1) new i (omega arith) (omega arith) ∙ copy.bytes (i % 4096) (in_piece i is lt) ∙ ap (λ (j : ℕ). get_or old j 0) (at_piece x.first i is) ∙ sym (second_left x (3 * n) old i (omega arith)))
        (λ other. ⊎_elim
        (λ before. second_both x old new (3 * n) (3 * n + 1) i (omega arith) (omega arith) (copy.apart.same (x.second + i) (scratch_clear x.second i apart.from_second lt)))
        (λ behind. second_none x old new (3 * n) (3 * n + 1) i (omega arith) (omega arith) (copy.apart.same (x.first + i) (scratch_clear x.first i apart.from_first lt)))
        other)
        (cases_order (i / 4096) n);
  }

  to_first : IsCopy (x.second + 4096 * n) (x.first + 4096 * n) (piece_size x n) old new → BytesSame x (3 * n + 1) old (3 * n + 2) new
  to_first copy = record {
    first = λ i lt. ⊎_elim
        (λ is. first_done x (3 * n + 2) new i (omega arith) ∙ ap (λ (j : ℕ). get_or new j 0) (sym (at_piece x.first i is)) ∙ copy.bytes (i % 4096) (in_piece i is lt) ∙ ap (λ (j : ℕ). get_or old j 0) (at_piece x.second i is) ∙ sym (first_left x (3 * n + 1) old i (omega arith)))
        (λ other. ⊎_elim
        (λ before. first_both x old new (3 * n + 1) (3 * n + 2) i (omega arith) (omega arith) (copy.apart.same (x.first + i) (out_before x.first i before)))
        (λ behind. first_none x old new (3 * n + 1) (3 * n + 2) i (omega arith) (omega arith) (copy.apart.same (x.second + i) (out_of x.first x.second 0 i apart.contents lt)))
        other)
        (cases_order (i / 4096) n);
    second = λ i lt. ⊎_elim
        (λ is. second_kept x old new (3 * n + 1) (3 * n + 2) i (omega arith) (omega arith) (omega arith) (omega arith) (copy.apart.same (x.scratch + i % 4096) (out_scratch x.first i apart.from_first)))
        (λ other. ⊎_elim
        (λ before. second_both x old new (3 * n + 1) (3 * n + 2) i (omega arith) (omega arith) (copy.apart.same (x.second + i) (out_of x.first x.second 0 i apart.contents lt)))
        (λ behind. second_none x old new (3 * n + 1) (3 * n + 2) i (omega arith) (omega arith) (copy.apart.same (x.first + i) (out_behind x.first i behind)))
        other)
        (cases_order (i / 4096) n);
  }

  to_second : IsCopy x.scratch (x.second + 4096 * n) (piece_size x n) old new → BytesSame x (3 * n + 2) old (3 * n + 3) new
  to_second copy = record {
    first = λ i lt. ⊎_elim
        (λ behind. first_none x old new (3 * n + 2) (3 * n + 3) i (omega arith) (omega arith) (copy.apart.same (x.second + i) (out_behind x.second i behind)))
        (λ until. first_both x old new (3 * n + 2) (3 * n + 3) i (omega arith) (omega arith) (copy.apart.same (x.first + i) (out_of x.second x.first 0 i swapped lt)))
        (cases_lt n (i / 4096));
    second = λ i lt. ⊎_elim
        (λ is. second_done x (3 * n + 3) new i (omega arith) ∙ ap (λ (j : ℕ). get_or new j 0) (sym (at_piece x.second i is)) ∙ copy.bytes (i % 4096) (in_piece i is lt) ∙ sym (second_held x (3 * n + 2) old i (omega arith) (omega arith)))
        (λ other. ⊎_elim
        (λ before. second_both x old new (3 * n + 2) (3 * n + 3) i (omega arith) (omega arith) (copy.apart.same (x.second + i) (out_before x.second i before)))
        (λ behind. second_none x old new (3 * n + 2) (3 * n + 3) i (omega arith) (omega arith) (copy.apart.same (x.first + i) (out_of x.second x.first 0 i swapped lt)))
        other)
        (cases_order (i / 4096) n);
  }

-- ---- whole contents

-- functions that agree on a range give the same list
same_map : (f g : ℕ → ℕ) (n : ℕ) → ((i : ℕ) → i < n → f i ≡ g i) → map f (range_with_len 0 n) ≡ map g (range_with_len 0 n)
same_map f g n each =
    ext_get_or 0 (map f (range_with_len 0 n)) (map g (range_with_len 0 n)) (length-map-range_with_len f 0 n ∙ sym (length-map-range_with_len g 0 n))
    (λ i lt. let below : i < n = omega (arith, length-map-range_with_len f 0 n, lt) in
    get_or-map-range_with_len f 0 n i i 0 below (omega arith) ∙ each i below ∙ sym (get_or-map-range_with_len g 0 n i i 0 below (omega arith)))

-- the bytes of a range
range_of : (f : ℕ → ℕ) (image : List ℕ) (place n : ℕ) → place + n ≤ length image → ((i : ℕ) → i < n → f i ≡ get_or image (place + i) 0)
    → map f (range_with_len 0 n) ≡ slice_range image place (place + n)
range_of f image place n fits each =
    ext_get_or 0 (map f (range_with_len 0 n)) (slice_range image place (place + n))
    (length-map-range_with_len f 0 n ∙ sym (long (length-between image place (place + n) fits)))
    (λ i lt. let below : i < n = omega (arith, length-map-range_with_len f 0 n, lt) in
    get_or-map-range_with_len f 0 n i i 0 below (omega arith) ∙ each i below ∙ sym (get_or-between image place (place + n) i 0 (omega arith)))
  where
    long : length (slice_range image place (place + n)) ≡ place + n - place → length (slice_range image place (place + n)) ≡ n
    long e = omega (arith, e)

pub whole : (x : Exchange) (k m : ℕ) (old new : List ℕ) → BytesSame x k old m new → RecoversSame x k old m new
whole x k m old new same = record {
  first = same_map (first_byte x m new) (first_byte x k old) x.second_length (λ i lt. same.first i (omega arith));
  second = same_map (second_byte x m new) (second_byte x k old) x.first_length (λ i lt. same.second i (omega arith));
}

-- ---- copy by copy

module _ (x : Exchange) (apart : AreApart x) (n : ℕ) (some : 4096 * n < longest x) (old new : List ℕ) where
  -- the same, for other ways of writing the counts
  counted : (a b k m : ℕ) → a ≡ k → b ≡ m → BytesSame x a old b new → BytesSame x k old m new
  counted a b k m e f same = subst (λ (j : ℕ). BytesSame x k old j new) f (subst (λ (j : ℕ). BytesSame x j old b new) e same)

  made_by : (step k : ℕ) → step < 3 → 3 * n + step ≡ k → IsCopy (piece_from x n step) (piece_to x n step) (piece_size x n) old new → BytesSame x k old (k + 1) new
  made_by zero k lt e copy = counted (3 * n) (3 * n + 1) k (k + 1) (omega (arith, e)) (omega (arith, e)) (to_scratch x apart n some old new copy)
  made_by (suc zero) k lt e copy = counted (3 * n + 1) (3 * n + 2) k (k + 1) e (omega (arith, e)) (to_first x apart n some old new copy)
  made_by (suc (suc zero)) k lt e copy = counted (3 * n + 2) (3 * n + 3) k (k + 1) e (omega (arith, e)) (to_second x apart n some old new copy)
  made_by (suc (suc (suc step))) k lt e copy = absurd (omega arith)

  torn_by : (step k : ℕ) → step < 3 → 3 * n + step ≡ k → SameOn (Outside (piece_to x n step) (piece_size x n)) old new → BytesSame x k old k new
  torn_by zero k lt e same = counted (3 * n) (3 * n) k k (omega (arith, e)) (omega (arith, e)) (tearing_scratch x apart n some old new same)
  torn_by (suc zero) k lt e same = counted (3 * n + 1) (3 * n + 1) k k e e (tearing_first x apart n some old new same)
  torn_by (suc (suc zero)) k lt e same = counted (3 * n + 2) (3 * n + 2) k k e e (tearing_second x apart n some old new same)
  torn_by (suc (suc (suc step))) k lt e same = absurd (omega arith)

-- a copy moves a part of the contents
pub in_contents : (x : Exchange) (k : ℕ) → k < copies x → 4096 * (k / 3) < longest x
in_contents x k lt = omega (arith, lt, mul-div-le k 3, mul-div-le (longest x + 4095) 4096)

which : (k : ℕ) → 3 * (k / 3) + k % 3 ≡ k
which k = omega (arith, mod-eq-sub-mul-div k 3, mul-div-le k 3)

pub step_of : (k : ℕ) → k % 3 < 3
step_of k = let below : k < 3 * (k / 3 + 1) = lt-mul-div-succ k (omega arith) in omega (arith, mod-eq-sub-mul-div k 3, below)

pub made : (x : Exchange) (k : ℕ) (old new : List ℕ) → AreApart x → k < copies x → IsCopy (copy_from x k) (copy_to x k) (copy_size x k) old new → RecoversSame x k old (k + 1) new
made x k old new apart lt copy =
    whole x k (k + 1) old new (made_by x apart (k / 3) (in_contents x k lt) old new (k % 3) k (step_of k) (which k) copy)

pub torn : (x : Exchange) (k : ℕ) (old new : List ℕ) → AreApart x → k < copies x → SameOn (Outside (copy_to x k) (copy_size x k)) old new → RecoversSame x k old k new
torn x k old new apart lt same =
    whole x k k old new (torn_by x apart (k / 3) (in_contents x k lt) old new (k % 3) k (step_of k) (which k) same)

-- ---- before the first copy and after the last one

none : (x : Exchange) (image : List ℕ) → FitsDisk x (length image)
    → (first_recovered x 0 image ≡ slice_range image x.second (x.second + x.second_length)) × (second_recovered x 0 image ≡ slice_range image x.first (x.first + x.first_length))
none x image fits = (
  range_of (first_byte x 0 image) image x.second x.second_length (omega (arith, fits.second)) (λ i lt. first_left x 0 image i (omega arith)),
  range_of (second_byte x 0 image) image x.first x.first_length (omega (arith, fits.first)) (λ i lt. second_left x 0 image i (omega arith)),
)

-- each piece is copied in the end
past : (x : Exchange) (i : ℕ) → i < longest x → i / 4096 < (longest x + 4095) / 4096
past x i lt =
    let below : longest x + 4095 < 4096 * ((longest x + 4095) / 4096 + 1) = lt-mul-div-succ (longest x + 4095) (omega arith) in
    omega (arith, lt, mul-div-le i 4096, below)

pub all : (x : Exchange) (k : ℕ) (image : List ℕ) → copies x ≤ k → FitsDisk x (length image)
    → (first_recovered x k image ≡ slice_range image x.first (x.first + x.second_length)) × (second_recovered x k image ≡ slice_range image x.second (x.second + x.first_length))
all x k image le fits = (
  range_of (first_byte x k image) image x.first x.second_length (omega (arith, fits.first)) (λ i lt. first_done x k image i (omega (arith, le, past x i (omega arith)))),
  range_of (second_byte x k image) image x.second x.first_length (omega (arith, fits.second)) (λ i lt. second_done x k image i (omega (arith, le, past x i (omega arith)))),
)

pub copy_law : CopyLaws
copy_law = record { none = none; all = all; made = made; torn = torn }

pub short_rest : (i : ℕ) → i % 4096 < 4096
short_rest i = let below : i < 4096 * (i / 4096 + 1) = lt-mul-div-succ i (omega arith) in omega (arith, mod-eq-sub-mul-div i 4096, below)
