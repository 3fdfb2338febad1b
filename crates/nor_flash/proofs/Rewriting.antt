-- Rewriting the named block.
use Rattle.std.proofs.Common.{◌≡◌, inr, ⊎_elim, ◌<◌, ◌≤◌, ◌+◌, ◌*◌, ℕ, List, length, Some, get_or, refl, sym, ◌∙◌, ap, arith, get_or-take}
use Rattle.std.specs.List.{slice_range}
use Rattle.std.proofs.lemmas.Bool.{cases_lt}
use Rattle.std.proofs.lemmas.List.{ext_get_or, get_or_past}
use Rattle.std.proofs.lemmas.List.Edits.{length-between, get_or-between}
use Rattle.suit_edge.specs.Flash.{Flash, Grows, IsSame}
use Rattle.suit_edge.specs.Ranges.{AreBytes, written}
use Rattle.suit_edge.specs.RangeLaws.{written_within}
use Rattle.nor_flash.specs.declared.phase.Phase.TheVariants as phases
use Rattle.nor_flash.specs.Blocks.{IsErased, cleared, front, named, with_block}
use Rattle.nor_flash.specs.NorDisks.{IsSteady, blocks_of}
use Rattle.nor_flash.specs.NorLaws.{by_range, length-front, length-with_block, with_block-in, with_block-out}
use Rattle.nor_flash.proofs.Calm.{Changes, IsCalm, IsSized, calm_fits, named_stays}
use Rattle.nor_flash.proofs.Filling.{cleared_erased}
use Rattle.nor_flash.proofs.Quiet.{rewriting_quiet}
use Rattle.nor_flash.proofs.Steadiness.{quiet_step, read_step, steady_then}

-- the image block was read
pub room_size : {size : ℕ} {a : Flash} → IsSized size → IsCalm size a → (room : List ℕ)
    → room ≡ slice_range a.reads (4096 * blocks_of size) (4096 * blocks_of size + 4096) → length room ≡ 4096
room_size {size} {a} sized calm room from =
    ap length from ∙ length-between a.reads (4096 * blocks_of size) (4096 * blocks_of size + 4096) (omega (arith, calm_fits sized calm)) ∙ omega arith

-- the named block changes: it is erased, or programmed too
module _ {size block : ℕ} {a b d : Flash} (change : Changes size block b d) (within : block < blocks_of size) (read : IsSame a b) (read_grows : Grows a b)
    (is : named (blocks_of size) a.reads ≡ Some block) where
  named_read : named (blocks_of size) b.reads ≡ Some block
  named_read = ap (named (blocks_of size)) read.reads ∙ is

  pub still_named : named (blocks_of size) d.reads ≡ Some block
  still_named = named_stays change (omega (arith, within)) ∙ named_read

  pub rewrite_steady : IsSteady (blocks_of size) (phases.Rewriting block) a (phases.Rewriting block) d
  rewrite_steady = steady_then change.from (read_step (blocks_of size) (phases.Rewriting block) read read_grows)
      (quiet_step change (rewriting_quiet (blocks_of size) change.sized.few b.reads (calm_fits change.sized change.from) (phases.Rewriting block) block within refl named_read))

-- the bytes of the image block are programmed into the erased block
module _ {size block : ℕ} {a b d e : Flash} (erase : Changes size block b d) (program : Changes size block d e) (within : block < blocks_of size)
    (calm_a : IsCalm size a) (read : IsSame a b) (room : List ℕ) (from : room ≡ slice_range a.reads (4096 * blocks_of size) (4096 * blocks_of size + 4096))
    (erased : IsErased block d.reads) (done : e.reads ≡ cleared d.reads (4096 * block) room) where
  abbrev m : ℕ
  m = blocks_of size

  fits_a : length a.reads ≡ 4096 * (m + 4)
  fits_a = calm_fits erase.sized calm_a

  long : length room ≡ 4096
  long = room_size erase.sized calm_a room from

  at_room : (k : ℕ) → k < 4096 → get_or room k 0 ≡ get_or a.reads (4096 * m + k) 0
  at_room k lt = ap (λ (l : List ℕ). get_or l k 0) from ∙ get_or-between a.reads (4096 * m) (4096 * m + 4096) k 0 (omega arith)

  room_bytes : AreBytes room
  room_bytes k = ⊎_elim
      (λ low. omega (arith, at_room k low, calm_a.bytes (4096 * m + k)))
      (λ high. omega (arith, get_or_past room k 0 (omega (arith, long, high)))) (cases_lt k 4096)

  fits_d : length d.reads ≡ 4096 * (m + 4)
  fits_d = calm_fits erase.sized erase.to

  is_written : e.reads ≡ written d.reads (4096 * block) room
  is_written = done ∙ cleared_erased d.reads room (4096 * block) (omega (arith, fits_d, within, long)) (λ i lt. erased (4096 * block + i) (omega arith) (omega (arith, lt, long))) room_bytes

  e_size : length e.reads ≡ size
  e_size = program.to.law.fits

  in_block : (k : ℕ) → k < 4096 → get_or e.reads (4096 * block + k) 0 ≡ get_or e.reads (4096 * m + k) 0
  in_block k lt =
      ap (λ (l : List ℕ). get_or l (4096 * block + k) 0) is_written
      ∙ written_within d.reads (4096 * block) room (omega (arith, fits_d, within, long)) k (omega (arith, long))
      ∙ at_room k lt ∙ ap (λ (l : List ℕ). get_or l (4096 * m + k) 0) (sym read.reads)
      ∙ sym (erase.keeps.reads.same (4096 * m + k) (inr (omega (arith, within)))) ∙ sym (program.keeps.reads.same (4096 * m + k) (inr (omega (arith, within))))

  room_for : 1 ≤ m → 4096 * (m + 4) ≤ size
  room_for some = omega (arith, erase.sized.all)

  front_at : (i : ℕ) → i < 4096 * m → get_or (front m e.reads) i 0 ≡ get_or e.reads i 0
  front_at i low = get_or-take (4096 * m) e.reads i 0 low

  pub copied : with_block m block e.reads ≡ front m e.reads
  copied =
      let w_size = length-with_block m size room_for e.reads e_size block within in
      let f_size = length-front m size room_for e.reads e_size in
      ext_get_or 0 (with_block m block e.reads) (front m e.reads) (w_size ∙ sym f_size)
      (λ i lt. let low : i < 4096 * m = omega (arith, w_size, lt) in
      by_range (λ (j : ℕ). get_or (with_block m block e.reads) j 0 ≡ get_or (front m e.reads) j 0) (4096 * block) 4096 i
      (λ out. with_block-out m size room_for e.reads e_size block within i low out ∙ sym (front_at i low))
      (λ k near. with_block-in m size room_for e.reads e_size block within k near ∙ sym (in_block k near) ∙ sym (front_at (4096 * block + k) (omega (arith, near, within)))))
