-- A device of which one block was changed, and what becomes of the disk.
use Rattle.std.proofs.Common.{◌≡◌, ◌≢◌, inl, inr, ⊎_elim, ◌<◌, ◌≤◌, ◌+◌, ◌-◌, ◌*◌, ℕ, List, length, take, replicate, Option, Some, None, ◌&&◌, nat_lt, eqb, get_or, refl, sym, ◌∙◌, ap, subst, arith}
use Rattle.std.specs.Int.{w64, from_be_bytes}
use Rattle.std.specs.List.{slice_range}
use Rattle.std.proofs.lemmas.Bool.{cases_lt, and_parts, ltb-true, eqb-true}
use Rattle.std.proofs.lemmas.List.{ext_get_or, length-replicate}
use Rattle.std.proofs.lemmas.List.Edits.{length-between, get_or-between}
use Rattle.std.proofs.lemmas.List.{get_or-replicate}
use Rattle.lane_bytes.specs.Bytes.{IsFirstOther}
use Rattle.suit_edge.specs.Ranges.{SameOn, written}
use Rattle.suit_edge.specs.RangeLaws.{same_range}
use Rattle.nor_flash.specs.Blocks.{IsErased, OutsideBlock, front, image_block, name_in, named, named_by, plain, plain_by, with_block}
use Rattle.nor_flash.specs.NorLaws.{by_range, length-with_block, with_block-in, with_block-out, some_true}

-- ---- names

-- all three names are set to this block
pub record AreNames (m : ℕ) (d : List ℕ) (block : ℕ) : Type 0 where
  pub first : name_in (m + 1) d ≡ block
  pub second : name_in (m + 2) d ≡ block
  pub third : name_in (m + 3) d ≡ block
  pub within : block < m

pub names_of : (m : ℕ) (d : List ℕ) (block : ℕ) → named m d ≡ Some block → AreNames m d block
names_of m d block is =
    let a : ℕ = name_in (m + 1) d in
    let b : ℕ = name_in (m + 2) d in
    let c : ℕ = name_in (m + 3) d in
    let chosen = some_true (eqb a b && (eqb b c && nat_lt a m)) a block is in
    let outer = and_parts (eqb a b) (eqb b c && nat_lt a m) chosen.0 in
    let inner = and_parts (eqb b c) (nat_lt a m) outer.1 in
    let ab : a ≡ b = eqb-true a b outer.0 in
    let bc : b ≡ c = eqb-true b c inner.0 in
    record { first = chosen.1; second = sym ab ∙ chosen.1; third = sym bc ∙ sym ab ∙ chosen.1; within = omega (arith, chosen.1, ltb-true a m inner.1) }

names_by : (m a b c block : ℕ) → a ≡ block → b ≡ block → c ≡ block → block < m → named_by m a b c ≡ Some block
names_by m a b c block first second third within = grind (arith, first, second, third, within)

-- three names set to the same block name it
pub three_names : (m : ℕ) (d : List ℕ) (block : ℕ) → AreNames m d block → named m d ≡ Some block
three_names m d block names = names_by m (name_in (m + 1) d) (name_in (m + 2) d) (name_in (m + 3) d) block names.first names.second names.third names.within

pub none_unless : (o : Option ℕ) → ((c : ℕ) → o ≡ Some c → ⊥) → o ≡ None
none_unless None other = refl
none_unless (Some c) other = absurd (other c refl)

-- the number in an erased name, which is no block's
abbrev pub blank_name : ℕ
blank_name = 18446744073709551615

each_name : (P : ℕ → Type 0) (j : ℕ) → 1 ≤ j → j < 4 → P 1 → P 2 → P 3 → P j
each_name P j some near one two three = ⊎_elim
    (λ low. let is : 1 ≡ j = omega (arith, low, some) in subst P is one)
    (λ past. ⊎_elim
    (λ mid. let is : 2 ≡ j = omega (arith, mid, past) in subst P is two)
    (λ high. let is : 3 ≡ j = omega (arith, high, near) in subst P is three)
    (cases_lt j 3))
    (cases_lt j 2)

-- if one of the names is blank, no block is named
pub blank_none : (m : ℕ) → m ≤ blank_name → (d : List ℕ) (j : ℕ) → 1 ≤ j → j < 4 → name_in (m + j) d ≡ blank_name → named m d ≡ None
blank_none m few d j some near is = none_unless (named m d)
    (λ block at.
    let names = names_of m d block at in
    let it : name_in (m + j) d ≡ block = each_name (λ (k : ℕ). name_in (m + k) d ≡ block) j some near names.first names.second names.third in
    omega (arith, it, names.within, is, few))

-- ---- a block that was read

pub erased_read : (block n : ℕ) (room before now : List ℕ) → n ≡ 4096 → 4096 * block + 4096 ≤ length before → now ≡ before
    → room ≡ slice_range before (4096 * block) (4096 * block + n) → ((i : ℕ) → i < length room → get_or room i 0 ≡ 255) → IsErased block now
erased_read block n room before now size fits same read all i low high =
    let at : 4096 * block + (i - 4096 * block) ≡ i = omega (arith, low) in
    let long : length room ≡ n = ap length read ∙ length-between before (4096 * block) (4096 * block + n) (omega (arith, fits, size)) ∙ omega arith in
    let got : get_or room (i - 4096 * block) 0 ≡ get_or before (4096 * block + (i - 4096 * block)) 0 =
    ap (λ l. get_or l (i - 4096 * block) 0) read ∙ get_or-between before (4096 * block) (4096 * block + n) (i - 4096 * block) 0 (omega (arith, low, high, size)) in
    ap (λ l. get_or l i 0) same ∙ subst (λ (j : ℕ). get_or before j 0 ≡ 255) at (sym got ∙ all (i - 4096 * block) (omega (arith, low, high, long, size)))

-- a block with a byte that is not 0xFF is not erased
pub not_erased : (block i : ℕ) (room before : List ℕ) → IsFirstOther room 255 i → 4096 * block + 4096 ≤ length before
    → room ≡ slice_range before (4096 * block) (4096 * block + 4096) → IsErased block before → ⊥
not_erased block i room before other fits read erased =
    let long : length room ≡ 4096 = ap length read ∙ length-between before (4096 * block) (4096 * block + 4096) fits ∙ omega arith in
    let near : i < 4096 = omega (arith, other.inside, long) in
    other.other (ap (λ (l : List ℕ). get_or l i 0) read ∙ get_or-between before (4096 * block) (4096 * block + 4096) i 0 (omega (arith, near))
    ∙ erased (4096 * block + i) (omega arith) (omega (arith, near)))

-- ---- the disk by what is named

pub plain_unnamed : (m : ℕ) (d : List ℕ) → named m d ≡ None → plain m d ≡ front m d
unfolding plain
plain_unnamed m d is = ap (plain_by m d) is

pub plain_named : (m block : ℕ) (d : List ℕ) → named m d ≡ Some block → plain m d ≡ with_block m block d
unfolding plain
plain_named m block d is = ap (plain_by m d) is

module _ (m : ℕ) (a : List ℕ) (fits : length a ≡ 4096 * (m + 4)) where
  -- ---- an erased name block

  pub erased_name : (j : ℕ) → j < m + 4 → IsErased j a → name_in j a ≡ blank_name
  unfolding name_in
  erased_name j has erased =
      let size = length-between a (4096 * j) (4096 * j + 8) (omega (arith, fits, has)) in
      let is : slice_range a (4096 * j) (4096 * j + 8) ≡ replicate 8 255 =
      ext_get_or 0 (slice_range a (4096 * j) (4096 * j + 8)) (replicate 8 255) (omega (arith, size, length-replicate {A = ℕ} 8 255))
      (λ i lt. let few : i < 8 = omega (arith, size, lt) in
      get_or-between a (4096 * j) (4096 * j + 8) i 0 (omega arith) ∙ erased (4096 * j + i) (omega arith) (omega (arith, few)) ∙ sym (get_or-replicate 8 i 255 0 few)) in
      ap (from_be_bytes w64) is

  -- ---- one block was changed

  module _ (block : ℕ) (d : List ℕ) (same : SameOn (OutsideBlock block) a d) where
    range_same : (j n : ℕ) → block ≢ j → n ≤ 4096 → j < m + 4 → slice_range d (4096 * j) (4096 * j + n) ≡ slice_range a (4096 * j) (4096 * j + n)
    range_same j n other few has =
        same_range d a (4096 * j) (4096 * j + n) same.size (omega (arith, same.size, fits, few, has))
        (λ i low high. same.same i (⊎_elim
        (λ below. inr (omega (arith, below, low)))
        (λ above. inl (omega (arith, above, other, low, high, few)))
        (cases_lt block j)))

    pub name_same : (j : ℕ) → block ≢ j → j < m + 4 → name_in j d ≡ name_in j a
    unfolding name_in
    name_same j other has = ap (from_be_bytes w64) (range_same j 8 other (omega arith) has)

    pub image_same : block ≢ m → image_block m d ≡ image_block m a
    image_same other = range_same m 4096 other (omega arith) (omega arith)

    pub front_same : m ≤ block → front m d ≡ front m a
    front_same behind =
        let zero : 4096 * m - 0 ≡ 4096 * m = omega arith in
        subst (λ (n : ℕ). take n d ≡ take n a) zero
        (same_range d a 0 (4096 * m) same.size (omega (arith, same.size, fits)) (λ i low high. same.same i (inl (omega (arith, high, behind)))))

    pub named_same : block ≤ m → named m d ≡ named m a
    named_same low =
        let one : name_in (m + 1) d ≡ name_in (m + 1) a = name_same (m + 1) (λ e. absurd (omega (arith, e, low))) (omega arith) in
        let two : name_in (m + 2) d ≡ name_in (m + 2) a = name_same (m + 2) (λ e. absurd (omega (arith, e, low))) (omega arith) in
        let three : name_in (m + 3) d ≡ name_in (m + 3) a = name_same (m + 3) (λ e. absurd (omega (arith, e, low))) (omega arith) in
        (λ i. named_by m (one i) (two i) (three i))

    pub with_block_same : (b : ℕ) → m ≤ block → block ≢ m → with_block m b d ≡ with_block m b a
    unfolding with_block
    with_block_same b behind other =
        ap (λ (l : List ℕ). written l (4096 * b) (image_block m d)) (front_same behind) ∙ ap (written (front m a) (4096 * b)) (image_same other)

    -- another block that is erased stays erased
    pub erased_same : (j : ℕ) → block ≢ j → IsErased j a → IsErased j d
    erased_same j other erased i low high =
        same.same i (⊎_elim (λ below. inr (omega (arith, below, low))) (λ above. inl (omega (arith, above, other, low, high))) (cases_lt block j)) ∙ erased i low high

    -- what becomes of the named block does not matter, since the image block replaces it
    pub block_is_over : block < m → with_block m block d ≡ with_block m block a
    block_is_over within =
        let d_fits : length d ≡ length a = same.size in
        let d_size = length-with_block m (length a) fits_room d d_fits block within in
        let a_size = length-with_block m (length a) fits_room a refl block within in
        ext_get_or 0 (with_block m block d) (with_block m block a) (d_size ∙ sym a_size)
        (λ i lt. by_range (λ (j : ℕ). get_or (with_block m block d) j 0 ≡ get_or (with_block m block a) j 0) (4096 * block) 4096 i (outside i (omega (arith, d_size, lt))) within_it)
      where
        fits_room : 1 ≤ m → 4096 * (m + 4) ≤ length a
        fits_room some = omega (arith, fits)

        outside : (i : ℕ) → i < 4096 * m → OutsideBlock block i → get_or (with_block m block d) i 0 ≡ get_or (with_block m block a) i 0
        outside i low out =
            with_block-out m (length a) fits_room d same.size block within i low out ∙ same.same i out
            ∙ sym (with_block-out m (length a) fits_room a refl block within i low out)

        within_it : (k : ℕ) → k < 4096 → get_or (with_block m block d) (4096 * block + k) 0 ≡ get_or (with_block m block a) (4096 * block + k) 0
        within_it k lt =
            with_block-in m (length a) fits_room d same.size block within k lt ∙ same.same (4096 * m + k) (inr (omega (arith, within)))
            ∙ sym (with_block-in m (length a) fits_room a refl block within k lt)
