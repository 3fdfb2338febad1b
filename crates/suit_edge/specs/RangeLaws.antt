-- Bytes that are written over a list, and lists that agree on some places.
use Rattle.std.proofs.Common.{◌≡◌, inl, inr, ⊎_elim, ◌<◌, ◌≤◌, ℕ, ◌+◌, ◌-◌, List, [], ◌∷◌, ◌++◌, length, take, drop, get_or, refl, sym, ◌∙◌, ap, subst, arith, length-append, length-drop, get_or-take}
use Rattle.std.specs.List.{slice_range}
use Rattle.std.proofs.lemmas.Bool.{cases_lt}
use Rattle.std.proofs.lemmas.List.Edits.{length-between, get_or-between}
use Rattle.std.proofs.lemmas.List.{get_or-append_right, get_or_append_left, get_or-drop, length-take-le, ext_get_or}
use Rattle.suit_edge.specs.Ranges.{Outside, SameOn, written}

module _ (old : List ℕ) (place : ℕ) (bytes : List ℕ) (fits : place + length bytes ≤ length old) where
  pub length-written : length (written old place bytes) ≡ length old
  unfolding written
  length-written =
      omega (arith, length-append (take place old ++ bytes) (drop (place + length bytes) old), length-append (take place old) bytes, length-take-le place old (omega arith), length-drop (place + length bytes) old)

  front : length (take place old) ≡ place
  front = length-take-le place old (omega arith)

  below : (i : ℕ) → i < place → get_or (written old place bytes) i 0 ≡ get_or old i 0
  unfolding written
  below i h =
      get_or_append_left (take place old ++ bytes) (drop (place + length bytes) old) 0 i (omega (arith, front, length-append (take place old) bytes))
      ∙ get_or_append_left (take place old) bytes 0 i (omega (arith, front)) ∙ get_or-take place old i 0 h

  above : (i : ℕ) → place + length bytes ≤ i → get_or (written old place bytes) i 0 ≡ get_or old i 0
  unfolding written
  above i h =
      get_or-append_right (take place old ++ bytes) (drop (place + length bytes) old) (place + length bytes) i 0 (omega (arith, front, length-append (take place old) bytes)) h
      ∙ get_or-drop (place + length bytes) old (i - (place + length bytes)) 0
      ∙ ap (λ (k : ℕ). get_or old k 0) (omega arith)

  pub written_within : (i : ℕ) → i < length bytes
      → get_or (written old place bytes) (place + i) 0 ≡ get_or bytes i 0
  unfolding written
  written_within i h =
      get_or_append_left (take place old ++ bytes) (drop (place + length bytes) old) 0 (place + i) (omega (arith, front, length-append (take place old) bytes))
      ∙ get_or-append_right (take place old) bytes place (place + i) 0 front (omega arith)
      ∙ ap (λ (k : ℕ). get_or bytes k 0) (omega arith)

  -- everything outside the range stays
  pub written_outside : SameOn (Outside place (length bytes)) old (written old place bytes)
  written_outside = record { size = length-written; same = λ i out. ⊎_elim (below i) (above i) out }

  -- the range holds the bytes
  pub written_range : slice_range (written old place bytes) place (place + length bytes) ≡ bytes
  written_range =
      let size = length-between (written old place bytes) place (place + length bytes) (omega (arith, length-written)) in
      ext_get_or 0 (slice_range (written old place bytes) place (place + length bytes)) bytes (omega (arith, size))
      (λ i h. let lt : i < length bytes = omega (arith, size) in
      get_or-between (written old place bytes) place (place + length bytes) i 0 (omega arith) ∙ written_within i lt)

-- the same for one byte
pub written_one : (old : List ℕ) (place b : ℕ) → place + 1 ≤ length old
    → get_or (written old place (b ∷ [])) place 0 ≡ b
written_one old place b fits =
    let at : place + 0 ≡ place = omega arith in
    subst (λ (k : ℕ). get_or (written old place (b ∷ [])) k 0 ≡ b) at (written_within old place (b ∷ []) fits 0 (omega arith))

-- lists that agree on a range have the same bytes there
pub same_range : (c d : List ℕ) (from to : ℕ) → length c ≡ length d → to ≤ length c
    → ((i : ℕ) → from ≤ i → i < to → get_or c i 0 ≡ get_or d i 0)
    → slice_range c from to ≡ slice_range d from to
same_range c d from to size fits agree =
    ext_get_or 0 (slice_range c from to) (slice_range d from to) (length-between c from to fits ∙ sym (length-between d from to (omega (arith, size))))
    (λ i h.
    let in_range : from + i < to = omega (arith, length-between c from to fits) in
    get_or-between c from to i 0 in_range ∙ agree (from + i) (omega arith) in_range ∙ sym (get_or-between d from to i 0 in_range))

-- ---- lists that agree on some places

pub same_start : (K : ℕ → Type 0) (a : List ℕ) → SameOn K a a
same_start K a = record { size = refl; same = λ i k. refl }

pub same_then : (K : ℕ → Type 0) (a b c : List ℕ) → SameOn K a b → SameOn K b c → SameOn K a c
same_then K a b c first second = record { size = second.size ∙ first.size; same = λ i k. second.same i k ∙ first.same i k }

pub same_back : (K : ℕ → Type 0) (a b : List ℕ) → SameOn K a b → SameOn K b a
same_back K a b same = record { size = sym same.size; same = λ i k. sym (same.same i k) }

-- on fewer places
pub same_fewer : (K L : ℕ → Type 0) → ((i : ℕ) → K i → L i) → (a b : List ℕ) → SameOn L a b
    → SameOn K a b
same_fewer K L to a b same = record { size = same.size; same = λ i k. same.same i (to i k) }

-- a place outside a range is outside each range within it
pub outside_within : (p k q n : ℕ) → q ≤ p → p + k ≤ q + n → (i : ℕ) → Outside q n i → Outside p k i
outside_within p k q n low high i out = ⊎_elim (λ h. inl (omega arith)) (λ h. inr (omega arith)) out

-- ---- one range after another

module _ (old : List ℕ) (p : ℕ) (xs ys : List ℕ) (fits : p + length xs + length ys ≤ length old) where
  size_all : p + length (xs ++ ys) ≤ length old
  size_all = omega (arith, length-append xs ys)

  -- writing bytes, and then more bytes right after them, writes them as one range
  pub written-written : written (written old p xs) (p + length xs) ys ≡ written old p (xs ++ ys)
  written-written =
      ext_get_or 0 (written (written old p xs) (p + length xs) ys) (written old p (xs ++ ys)) (twice ∙ sym (length-written old p (xs ++ ys) size_all)) same
    where
      once : length (written old p xs) ≡ length old
      once = length-written old p xs (omega arith)

      twice : length (written (written old p xs) (p + length xs) ys) ≡ length old
      twice = length-written (written old p xs) (p + length xs) ys (omega (arith, once)) ∙ once

      fits_ys : p + length xs + length ys ≤ length (written old p xs)
      fits_ys = omega (arith, once)

      out : (i : ℕ) → Outside p (length (xs ++ ys)) i
          → get_or (written (written old p xs) (p + length xs) ys) i 0
          ≡ get_or (written old p (xs ++ ys)) i 0
      out i far =
          let n = length-append xs ys in
          let far_ys : Outside (p + length xs) (length ys) i = outside_within (p + length xs) (length ys) p (length (xs ++ ys)) (omega arith) (omega (arith, n)) i far in
          let far_xs : Outside p (length xs) i = outside_within p (length xs) p (length (xs ++ ys)) (omega arith) (omega (arith, n)) i far in
          (written_outside (written old p xs) (p + length xs) ys fits_ys).same i far_ys ∙ (written_outside old p xs (omega arith)).same i far_xs
          ∙ sym ((written_outside old p (xs ++ ys) size_all).same i far)

      in_xs : (k : ℕ) → k < length xs
          → get_or (written (written old p xs) (p + length xs) ys) (p + k) 0
          ≡ get_or (written old p (xs ++ ys)) (p + k) 0
      in_xs k lt =
          (written_outside (written old p xs) (p + length xs) ys fits_ys).same (p + k) (inl (omega arith)) ∙ written_within old p xs (omega arith) k lt
          ∙ sym (get_or_append_left xs ys 0 k lt) ∙ sym (written_within old p (xs ++ ys) size_all k (omega (arith, length-append xs ys)))

      in_ys : (k : ℕ) → k < length ys
          → get_or (written (written old p xs) (p + length xs) ys) (p + length xs + k) 0
          ≡ get_or (written old p (xs ++ ys)) (p + length xs + k) 0
      in_ys k lt =
          let at : p + (length xs + k) ≡ p + length xs + k = omega arith in
          let back : length xs + k - length xs ≡ k = omega arith in
          written_within (written old p xs) (p + length xs) ys fits_ys k lt
          ∙ sym (get_or-append_right xs ys (length xs) (length xs + k) 0 refl (omega arith) ∙ ap (λ (j : ℕ). get_or ys j 0) back)
          ∙ sym (written_within old p (xs ++ ys) size_all (length xs + k) (omega (arith, length-append xs ys)))
          ∙ ap (λ (j : ℕ). get_or (written old p (xs ++ ys)) j 0) at

      same : (i : ℕ) → i < length (written (written old p xs) (p + length xs) ys)
          → get_or (written (written old p xs) (p + length xs) ys) i 0
          ≡ get_or (written old p (xs ++ ys)) i 0
      same i lt = ⊎_elim (λ low. out i (inl low))
          (λ high. ⊎_elim
          (λ near. let at : p + (i - p) ≡ i = omega (arith, high) in subst (λ (j : ℕ). get_or (written (written old p xs) (p + length xs) ys) j 0 ≡ get_or (written old p (xs ++ ys)) j 0) at (in_xs (i - p) (omega (arith, high, near))))
          (λ past. ⊎_elim
          (λ near. let at : p + length xs + (i - (p + length xs)) ≡ i = omega (arith, past) in subst (λ (j : ℕ). get_or (written (written old p xs) (p + length xs) ys) j 0 ≡ get_or (written old p (xs ++ ys)) j 0) at (in_ys (i - (p + length xs)) (omega (arith, past, near))))
          (λ far. out i (inr (omega (arith, far, length-append xs ys))))
          (cases_lt i (p + length xs + length ys)))
          (cases_lt i (p + length xs)))
          (cases_lt i p)

-- writing no bytes changes nothing
pub written-none : (old : List ℕ) (place : ℕ) → place ≤ length old → written old place [] ≡ old
written-none old place fits =
    let out = written_outside old place [] (omega arith) in
    ext_get_or 0 (written old place []) old out.size (λ i h. out.same i (⊎_elim (λ low. inl low) (λ high. inr (omega arith)) (cases_lt i place)))
