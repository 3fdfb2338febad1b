-- A program that only clears bits, on a disk that is settled.
use Rattle.std.proofs.Common.{◌≡◌, inl, inr, ⊎_elim, ◌<◌, ◌≤◌, ◌+◌, ◌*◌, ℕ, List, length, min, get_or, refl, sym, ◌∙◌, ap, subst, arith, get_or-take}
use Rattle.std.specs.Int.{bit_at}
use Rattle.std.specs.Int.Bits.{bit_and}
use Rattle.std.specs.List.{slice_range}
use Rattle.std.proofs.lemmas.Bool.{cases_lt}
use Rattle.std.proofs.lemmas.List.{ext_get_or, get_or_past, length-take-le}
use Rattle.std.proofs.lemmas.List.Edits.{get_or-between}
use Rattle.std.proofs.lemmas.Nat.Bits.{bit_at_and, same_from_bits}
use Rattle.lane_bytes.specs.Bytes.{OnlyClears, SetsNoBit}
use Rattle.suit_edge.specs.Edge.{IfDone}
use Rattle.suit_edge.specs.EdgeLaws.{if_done_then}
use Rattle.suit_edge.specs.declared.edge.Edge.{Edge}
use Rattle.suit_edge.specs.Flash.{Flash, Grows, Keeps, ImageOn}
use Rattle.suit_edge.specs.Ranges.{Outside, SameOn, written}
use Rattle.suit_edge.specs.RangeLaws.{written_outside, written_within}
use Rattle.nor_flash.specs.declared.phase.Phase.TheVariants as phases
use Rattle.nor_flash.specs.Blocks.{IsErased, cleared, front, plain}
use Rattle.nor_flash.specs.NorDisks.{AreErased, Writes, blocks_of, nor_flash}
use Rattle.nor_flash.specs.NorLaws.{by_range, length-front}
use Rattle.nor_flash.proofs.Calm.{IsCalm, IsSized, calm_fits, left_same}
use Rattle.nor_flash.proofs.Filling.{cleared_by}
use Rattle.nor_flash.proofs.Fronts.{settled_front}
use Rattle.nor_flash.proofs.Steadiness.{passes_by, plain_grows}

module _ {size : ℕ} {a b : Flash} (sized : IsSized size) (calm_a : IsCalm size a) (place n : ℕ) (inside : place + n ≤ 4096 * blocks_of size)
    (erased : AreErased (blocks_of size) a.reads) (kept : Keeps (Outside place n) a b) where
  abbrev m : ℕ
  m = blocks_of size

  module _ (d : List ℕ) (same : SameOn (Outside place n) a.reads d) where
    fits_d : length d ≡ 4096 * (m + 4)
    fits_d = same.size ∙ calm_fits sized calm_a

    behind : (j : ℕ) → m ≤ j → IsErased j a.reads → IsErased j d
    behind j from was i low high = same.same i (inr (omega (arith, inside, from, low))) ∙ was i low high

    pub still_erased : AreErased m d
    still_erased = (behind (m + 1) (omega arith) erased.0, behind (m + 2) (omega arith) erased.1, behind (m + 3) (omega arith) erased.2)

    fronts : SameOn (Outside place n) (front m a.reads) (front m d)
    fronts =
        let d_size : length (front m d) ≡ 4096 * m = length-front m (length d) room_d d refl in
        let a_size : length (front m a.reads) ≡ 4096 * m = length-front m (length a.reads) room_a a.reads refl in
        record {
          size = d_size ∙ sym a_size;
          same = λ i out. ⊎_elim
              (λ low. get_or-take (4096 * m) d i 0 low ∙ same.same i out ∙ sym (get_or-take (4096 * m) a.reads i 0 low))
              (λ high. get_or_past (front m d) i 0 (omega (arith, d_size, high)) ∙ sym (get_or_past (front m a.reads) i 0 (omega (arith, a_size, high))))
              (cases_lt i (4096 * m));
        }
      where
        room_d : 1 ≤ m → 4096 * (m + 4) ≤ length d
        room_d some = omega (arith, fits_d)

        room_a : 1 ≤ m → 4096 * (m + 4) ≤ length a.reads
        room_a some = omega (arith, calm_fits sized calm_a)

    plains : SameOn (Outside place n) (plain m a.reads) (plain m d)
    plains =
        let at_a : front m a.reads ≡ plain m a.reads = sym (settled_front m sized.few a.reads (calm_fits sized calm_a) erased) in
        let at_d : front m d ≡ plain m d = sym (settled_front m sized.few d fits_d still_erased) in
        subst (λ (l : List ℕ). SameOn (Outside place n) l (plain m d)) at_a (subst (λ (l : List ℕ). SameOn (Outside place n) (front m a.reads) l) at_d fronts)

  shows : (d : List ℕ) → SameOn (Outside place n) a.reads d → ImageOn (Outside place n) (nor_flash m phases.Settled a) (plain m d)
  shows d same = record { from = plain m a.reads; was = inl (a.reads, calm_a.law.reads_may, refl); same = plains d same }

  direct_keeps : Keeps (Outside place n) (nor_flash m phases.Settled a) (nor_flash m phases.Settled b)
  direct_keeps = record {
    reads = plains b.reads kept.reads;
    images = passes_by m phases.Settled phases.Settled a b (ImageOn (Outside place n) (nor_flash m phases.Settled a)) kept.images
        (λ d on. shows d (left_same (Outside place n) calm_a on)) (shows b.reads kept.reads);
  }

-- ---- bytes that only clear bits

least : (x y : ℕ) → y < 2 → (y ≡ 1 → x ≡ 1) → min x y ≡ y
least x y two h = ⊎_elim (λ none. omega (arith, none)) (λ some. omega (arith, some, h (omega (arith, some, two)))) (cases_lt y 1)

kept_by_and : (x y : ℕ) → SetsNoBit x y → bit_and x y ≡ y
kept_by_and x y clears = same_from_bits (bit_and x y) y (λ bit. bit_at_and x y bit ∙ least (bit_at x bit) (bit_at y bit) (omega arith) (clears bit))

cleared_written : (old bytes : List ℕ) (place : ℕ) → place + length bytes ≤ length old → OnlyClears (slice_range old place (place + length bytes)) bytes
    → cleared old place bytes ≡ written old place bytes
cleared_written old bytes place fits clears = cleared_by old bytes place fits
    (λ i lt. kept_by_and (get_or old (place + i) 0) (get_or bytes i 0)
    (subst (λ (x : ℕ). SetsNoBit x (get_or bytes i 0)) (get_or-between old place (place + length bytes) i 0 (omega (arith, lt))) (clears i lt)))

-- the front of the device after the write is the disk after it
front_written : (m : ℕ) (old bytes : List ℕ) (place : ℕ) → 4096 * (m + 4) ≡ length old → place + length bytes ≤ 4096 * m
    → front m (written old place bytes) ≡ written (front m old) place bytes
front_written m old bytes place all inside =
    let fits : place + length bytes ≤ length old = omega (arith, all, inside) in
    let whole = written_outside old place bytes fits in
    let f_size : length (front m old) ≡ 4096 * m = length-take-le (4096 * m) old (omega (arith, all)) in
    let l_size : length (front m (written old place bytes)) ≡ 4096 * m = length-take-le (4096 * m) (written old place bytes) (omega (arith, all, whole.size)) in
    let part = written_outside (front m old) place bytes (omega (arith, f_size, inside)) in
    ext_get_or 0 (front m (written old place bytes)) (written (front m old) place bytes) (l_size ∙ sym f_size ∙ sym part.size)
    (λ i lt. let low : i < 4096 * m = omega (arith, l_size, lt) in
    get_or-take (4096 * m) (written old place bytes) i 0 low ∙ by_range (λ (j : ℕ). get_or (written old place bytes) j 0 ≡ get_or (written (front m old) place bytes) j 0) place (length bytes) i
    (λ out. whole.same i out ∙ sym (get_or-take (4096 * m) old i 0 low) ∙ sym (part.same i out))
    (λ k near. written_within old place bytes fits k near ∙ sym (written_within (front m old) place bytes (omega (arith, f_size, inside)) k near)))

-- the disk has the bytes then
pub direct_writes : {size : ℕ} {a b : Flash} (sized : IsSized size) → IsCalm size a → (place : ℕ) (bytes : List ℕ) (answer : Edge) → place + length bytes ≤ 4096 * blocks_of size
    → AreErased (blocks_of size) a.reads → Keeps (Outside place (length bytes)) a b → Grows a b → OnlyClears (slice_range a.reads place (place + length bytes)) bytes
    → IfDone answer (b.reads ≡ cleared a.reads place bytes) → Writes answer place bytes (nor_flash (blocks_of size) phases.Settled a) (nor_flash (blocks_of size) phases.Settled b)
direct_writes {size} {a} {b} sized calm place bytes answer inside erased kept grown clears done =
    let m : ℕ = blocks_of size in
    let fits : length a.reads ≡ 4096 * (m + 4) = calm_fits sized calm in
    let plain_a : plain m a.reads ≡ front m a.reads = settled_front m sized.few a.reads fits erased in
    let plain_b : plain m b.reads ≡ front m b.reads =
    settled_front m sized.few b.reads (kept.reads.size ∙ fits) (still_erased sized calm place (length bytes) inside erased kept b.reads kept.reads) in
    record {
      written = if_done_then answer (b.reads ≡ cleared a.reads place bytes) (plain m b.reads ≡ written (plain m a.reads) place bytes) done
          (λ is. plain_b ∙ ap (front m) (is ∙ cleared_written a.reads bytes place (omega (arith, fits, inside)) clears) ∙ front_written m a.reads bytes place (sym fits) inside
          ∙ ap (λ (l : List ℕ). written l place bytes) (sym plain_a));
      keeps = direct_keeps sized calm place (length bytes) inside erased kept;
      grows = plain_grows m phases.Settled phases.Settled a b calm grown refl;
    }
