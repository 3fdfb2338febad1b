-- A disk over NOR flash obeys the laws of every disk.
use Rattle.std.proofs.Common.{◌≡◌, inl, inr, ⊎_elim, ◌<◌, ◌≤◌, ◌+◌, ◌-◌, ◌*◌, ℕ, List, length, Option, Some, None, Bool, true, false, ◌&&◌, nat_lt, eqb, if◌then◌else◌, get_or, refl, sym, ◌∙◌, ap, subst, arith, get_or-take}
use Rattle.std.proofs.lemmas.Bool.{cases_lt, and_parts, ltb-true}
use Rattle.std.proofs.lemmas.List.{get_or_past, length-take-le}
use Rattle.std.proofs.lemmas.List.Edits.{length-between, get_or-between}
use Rattle.suit_edge.specs.Flash.{Flash, IsFlash, IsSettled}
use Rattle.suit_edge.specs.Ranges.{AreBytes, Outside}
use Rattle.suit_edge.specs.RangeLaws.{length-written, written_outside, written_within}
use Rattle.nor_flash.specs.declared.phase.Phase.{Phase}
use Rattle.nor_flash.specs.declared.phase.Phase.TheVariants as phases
use Rattle.nor_flash.specs.Blocks.{OutsideBlock, front, image_block, name_in, named, named_by, plain, plain_by, with_block}
use Rattle.nor_flash.specs.NorDisks.{blocks_of, nor_flash, seen}

-- what holds outside a range and at each place of it holds
pub by_range : (P : ℕ → Type 0) (place n i : ℕ) → (Outside place n i → P i) → ((k : ℕ) → k < n → P (place + k)) → P i
by_range P place n i outside inside = ⊎_elim
    (λ before. outside (inl before))
    (λ past. ⊎_elim
    (λ within. let is : place + (i - place) ≡ i = omega (arith, past) in subst P is (inside (i - place) (omega (arith, past, within))))
    (λ behind. outside (inr behind))
    (cases_lt i (place + n)))
    (cases_lt i place)

-- a test that gives something is true
pub some_true : (t : Bool) (n c : ℕ) → (if t then Some n else None) ≡ Some c → (t ≡ true) × (n ≡ c)
some_true true n c is = (refl, cc)
some_true false n c is = cc

-- a named block is one of the disk's
pub named_within : (m a b c block : ℕ) → named_by m a b c ≡ Some block → block < m
named_within m a b c block is =
    let chosen = some_true (eqb a b && (eqb b c && nat_lt a m)) a block is in
    let tests = and_parts (eqb b c) (nat_lt a m) (and_parts (eqb a b) (eqb b c && nat_lt a m) chosen.0).1 in
    omega (arith, chosen.1, ltb-true a m tests.1)

module _ (m size : ℕ) (room : 1 ≤ m → 4096 * (m + 4) ≤ size) (device : List ℕ) (fits : length device ≡ size) where
  front_fits : 4096 * m ≤ length device
  front_fits = ⊎_elim (λ none. omega arith) (λ some. omega (arith, room some, fits)) (cases_lt m 1)

  pub length-front : length (front m device) ≡ 4096 * m
  length-front = length-take-le (4096 * m) device front_fits

  length-image : 1 ≤ m → length (image_block m device) ≡ 4096
  length-image some = omega (arith, length-between device (4096 * m) (4096 * m + 4096) (omega (arith, room some, fits)))

  pub length-with_block : (block : ℕ) → block < m → length (with_block m block device) ≡ 4096 * m
  unfolding with_block
  length-with_block block within = length-written (front m device) (4096 * block) (image_block m device) (omega (arith, length-front, length-image (omega arith), within)) ∙ length-front

  length-by : (name : Option ℕ) → ((block : ℕ) → name ≡ Some block → block < m) → length (plain_by m device name) ≡ 4096 * m
  length-by None within = length-front
  length-by (Some block) within = length-with_block block (within block refl)

  pub length-plain : length (plain m device) ≡ 4096 * m
  unfolding plain
  length-plain = length-by (named m device) (named_within m (name_in (m + 1) device) (name_in (m + 2) device) (name_in (m + 3) device))

  pub length-seen : (phase : Phase) → length (seen m phase device) ≡ 4096 * m
  length-seen phases.Unsettled = length-plain
  length-seen phases.Settled = length-plain
  length-seen phases.GivenUp = length-front
  length-seen (phases.Rewriting block) = length-plain

  -- ---- byte by byte

  module _ (block : ℕ) (within : block < m) where
    image_fits : 4096 * block + length (image_block m device) ≤ length (front m device)
    image_fits = omega (arith, length-front, length-image (omega arith), within)

    -- inside the block
    pub with_block-in : (k : ℕ) → k < 4096 → get_or (with_block m block device) (4096 * block + k) 0 ≡ get_or device (4096 * m + k) 0
    unfolding with_block
    with_block-in k lt =
        written_within (front m device) (4096 * block) (image_block m device) image_fits k (omega (arith, length-image (omega arith)))
        ∙ get_or-between device (4096 * m) (4096 * m + 4096) k 0 (omega arith)

    -- outside the block
    pub with_block-out : (i : ℕ) → i < 4096 * m → OutsideBlock block i → get_or (with_block m block device) i 0 ≡ get_or device i 0
    unfolding with_block
    with_block-out i low out =
        (written_outside (front m device) (4096 * block) (image_block m device) image_fits).same i
        (⊎_elim (λ before. inl before) (λ behind. inr (omega (arith, behind, length-image (omega arith)))) out)
        ∙ get_or-take (4096 * m) device i 0 low

  -- ---- bytes

  module _ (are : AreBytes device) where
    front_bytes : AreBytes (front m device)
    front_bytes i = ⊎_elim
        (λ low. omega (arith, get_or-take (4096 * m) device i 0 low, are i))
        (λ high. omega (arith, get_or_past (front m device) i 0 (omega (arith, length-front, high))))
        (cases_lt i (4096 * m))

    with_block_bytes : (block : ℕ) → block < m → AreBytes (with_block m block device)
    with_block_bytes block within i = ⊎_elim
        (λ low. by_range (λ (j : ℕ). get_or (with_block m block device) j 0 < 256) (4096 * block) 4096 i
        (λ out. omega (arith, with_block-out block within i low out, are i))
        (λ k near. omega (arith, with_block-in block within k near, are (4096 * m + k))))
        (λ high. omega (arith, get_or_past (with_block m block device) i 0 (omega (arith, length-with_block block within, high))))
        (cases_lt i (4096 * m))

    by_bytes : (name : Option ℕ) → ((block : ℕ) → name ≡ Some block → block < m) → AreBytes (plain_by m device name)
    by_bytes None within = front_bytes
    by_bytes (Some block) within = with_block_bytes block (within block refl)

    pub plain_bytes : AreBytes (plain m device)
    unfolding plain
    plain_bytes = by_bytes (named m device) (named_within m (name_in (m + 1) device) (name_in (m + 2) device) (name_in (m + 3) device))

-- if the disk has any block, the device has four more
pub has_room : (size : ℕ) → 1 ≤ blocks_of size → 4096 * (blocks_of size + 4) ≤ size
has_room size some = omega arith

pub nor_obeys : (size : ℕ) (phase : Phase) (f : Flash) → IsFlash f size → IsSettled f → AreBytes f.reads → IsFlash (nor_flash (blocks_of size) phase f) (4096 * blocks_of size)
nor_obeys size phase f law settled are =
    let m = blocks_of size in
    let room = has_room size in
    record {
      fits = length-seen m size room f.reads law.fits phase;
      sized = λ t image le may. ⊎_elim
          (λ h. ap length h.2 ∙ length-plain m size room h.0 (law.sized t h.0 le h.1))
          (λ h. ap length h.1 ∙ length-seen m size room f.reads law.fits phase) may;
      reads_may = inr (omega arith, refl);
      bytes = λ bytes image now. ⊎_elim
          (λ h. subst AreBytes (sym h.2) (plain_bytes m size room h.0 (law.sized f.clock h.0 (omega arith) h.1) (subst AreBytes (sym (settled h.0 h.1)) are)))
          (λ h. subst AreBytes (sym h.1) bytes) now;
      sooner = λ t u image le high may. ⊎_elim
          (λ h. inl (h.0, law.sooner t u h.0 le high h.1, h.2))
          (λ h. inr (omega (arith, le, h.0), h.1)) may;
    }
