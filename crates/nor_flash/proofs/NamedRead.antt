-- Reading the disk while a block is named.
use Rattle.std.proofs.Common.{◌≡◌, ◌⊎◌, inl, inr, ⊎_elim, ◌<◌, ◌≤◌, ◌+◌, ◌-◌, ◌*◌, ℕ, List, length, get_or, refl, sym, ◌∙◌, ap, arith}
use Rattle.std.specs.List.{slice_range}
use Rattle.std.proofs.lemmas.List.{ext_get_or}
use Rattle.std.proofs.lemmas.List.Edits.{length-between, get_or-between}
use Rattle.suit_edge.specs.Ranges.{written}
use Rattle.suit_edge.specs.RangeLaws.{written_outside, written_within}
use Rattle.nor_flash.specs.Blocks.{OutsideBlock, with_block}
use Rattle.nor_flash.specs.NorLaws.{by_range, length-with_block, with_block-in, with_block-out}

module _ (m block : ℕ) (within : block < m) (a : List ℕ) (fits : length a ≡ 4096 * (m + 4)) (place n : ℕ) (inside : place + n ≤ 4096 * m) where
  room_for : 1 ≤ m → 4096 * (m + 4) ≤ length a
  room_for some = omega (arith, fits)

  abbrev shown : List ℕ
  shown = with_block m block a

  shown_size : length shown ≡ 4096 * m
  shown_size = length-with_block m (length a) room_for a refl block within

  abbrev wanted : List ℕ
  wanted = slice_range shown place (place + n)

  wanted_size : length wanted ≡ n
  wanted_size = omega (arith, length-between shown place (place + n) (omega (arith, shown_size, inside)))

  abbrev bare : List ℕ
  bare = slice_range a place (place + n)

  bare_size : length bare ≡ n
  bare_size = omega (arith, length-between a place (place + n) (omega (arith, fits, inside)))

  -- a byte outside the named block is the device's
  beside : (k : ℕ) → k < n → OutsideBlock block (place + k) → get_or bare k 0 ≡ get_or wanted k 0
  beside k lt out =
      get_or-between a place (place + n) k 0 (omega arith)
      ∙ sym (get_or-between shown place (place + n) k 0 (omega arith) ∙ with_block-out m (length a) room_for a refl block within (place + k) (omega (arith, lt, inside)) out)

  -- the range has no byte of the named block
  pub none_named : ((k : ℕ) → k < n → OutsideBlock block (place + k)) → bare ≡ wanted
  none_named out = ext_get_or 0 bare wanted (bare_size ∙ sym wanted_size) (λ k lt. beside k (omega (arith, lt, bare_size)) (out k (omega (arith, lt, bare_size))))

  -- a part of the range is in the named block
  module _ (start from to : ℕ) (at : start ≡ 4096 * block) (low : start ≤ from) (high : to ≤ start + 4096) (order : from ≤ to) (first : place ≤ from) (last : to ≤ place + n)
      (below : (k : ℕ) → k < from - place → place + k < start) (above : (k : ℕ) → to - place ≤ k → k < n → start + 4096 ≤ place + k) where
    abbrev part : List ℕ
    part = slice_range a (4096 * m + (from - start)) (4096 * m + (from - start) + (to - place - (from - place)))

    part_size : length part ≡ to - from
    part_size = omega (arith, length-between a (4096 * m + (from - start)) (4096 * m + (from - start) + (to - place - (from - place))) (omega (arith, fits, low, high, order, first)), first, order)

    put_fits : from - place + length part ≤ length bare
    put_fits = omega (arith, part_size, bare_size, first, last, order)

    abbrev given : List ℕ
    given = written bare (from - place) part

    outer : (k : ℕ) → k < n → (k < from - place) ⊎ (to - place ≤ k) → get_or given k 0 ≡ get_or wanted k 0
    outer k lt out =
        (written_outside bare (from - place) part put_fits).same k (⊎_elim (λ l. inl l) (λ r. inr (omega (arith, r, part_size, first, order))) out)
        ∙ beside k lt (⊎_elim (λ l. inl (omega (arith, at, below k l))) (λ r. inr (omega (arith, at, above k r lt))) out)

    inner : (j : ℕ) → j < to - from → get_or given (from - place + j) 0 ≡ get_or wanted (from - place + j) 0
    inner j lt =
        let i : place + (from - place + j) ≡ 4096 * block + (from - start + j) = omega (arith, first, low, at) in
        let e : 4096 * m + (from - start) + j ≡ 4096 * m + (from - start + j) = omega arith in
        written_within bare (from - place) part put_fits j (omega (arith, lt, part_size))
        ∙ get_or-between a (4096 * m + (from - start)) (4096 * m + (from - start) + (to - place - (from - place))) j 0 (omega (arith, lt, first, order))
        ∙ ap (λ (k : ℕ). get_or a k 0) e
        ∙ sym (get_or-between shown place (place + n) (from - place + j) 0 (omega (arith, lt, last, first, order))
        ∙ ap (λ (k : ℕ). get_or shown k 0) i
        ∙ with_block-in m (length a) room_for a refl block within (from - start + j) (omega (arith, lt, high, low)))

    pub some_named : given ≡ wanted
    some_named =
        let whole = written_outside bare (from - place) part put_fits in
        ext_get_or 0 given wanted (whole.size ∙ bare_size ∙ sym wanted_size)
        (λ k lt. by_range (λ (x : ℕ). get_or given x 0 ≡ get_or wanted x 0) (from - place) (to - from) k
        (λ out. outer k (omega (arith, lt, whole.size, bare_size)) (⊎_elim (λ l. inl l) (λ r. inr (omega (arith, r, first, order))) out)) inner)
