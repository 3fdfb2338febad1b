-- Making a copy on a disk.
use Rattle.std.proofs.Common.{◌≡◌, inl, inr, ⊎_elim, ◌<◌, ◌≤◌, ℕ, zero, suc, ◌+◌, ◌*◌, ◌/◌, ◌%◌, List, length, take, get_or, sym, ◌∙◌, ap, subst, arith}
use Rattle.std.specs.List.{slice_range}
use Rattle.std.proofs.lemmas.List.{length-take-le}
use Rattle.std.proofs.lemmas.List.Edits.{length-between, get_or-between}
use Rattle.suit_edge.specs.Ranges.{Outside, OutsideEach, SameOn, written}
use Rattle.suit_edge.specs.RangeLaws.{written_within, written_outside}
use Rattle.suit_edge.specs.Flash.{Flash, Passes, ImageOn, Keeps, IsSettled}
use Rattle.suit_edge.specs.FlashLaws.{weakens, keeps_fewer}
use Rattle.swap_journal.specs.declared.contents.Exchange.{Exchange}
use Rattle.swap_journal.specs.Exchanges.{AreApart, FitsDisk, IsCopy, RecoversSame, areas, longest, copies, copy_from, copy_to, copy_size, piece_from, piece_to, piece_size}
use Rattle.swap_journal.proofs.Copies.{torn, in_contents, step_of}

-- bytes that were read and then written elsewhere
pub copied : (from to n : ℕ) (old new bytes : List ℕ) → from + n ≤ length old → to + n ≤ length old → bytes ≡ slice_range old from (from + n) → new ≡ written old to bytes
    → IsCopy from to n old new
copied from to n old new bytes from_fits to_fits read wrote =
    let long : length bytes ≡ n = ap length read ∙ size in
    let fits : to + length bytes ≤ length old = omega (arith, long) in
    record {
      apart = subst (λ (k : ℕ). SameOn (Outside to k) old new) long (subst (λ (l : List ℕ). SameOn (Outside to (length bytes)) old l) (sym wrote) (written_outside old to bytes fits));
      bytes = λ i lt.
          ap (λ (l : List ℕ). get_or l (to + i) 0) wrote ∙ written_within old to bytes fits i (omega (arith, long, lt))
          ∙ ap (λ (l : List ℕ). get_or l i 0) read ∙ get_or-between old from (from + n) i 0 (omega arith);
    }
  where
    size : length (slice_range old from (from + n)) ≡ n
    size = omega (arith, length-between old from (from + n) from_fits)

-- the images that a power loss leaves while a copy is made
pub torn_images : (x : Exchange) (k : ℕ) (a b : Flash) → AreApart x → k < copies x → IsSettled a → Keeps (Outside (copy_to x k) (copy_size x k)) a b
    → Passes a b (RecoversSame x k a.reads k)
torn_images x k a b apart lt settled kept =
    weakens a b (ImageOn (Outside (copy_to x k) (copy_size x k)) a) (RecoversSame x k a.reads k)
    (λ image on. torn x k a.reads image apart lt (subst (λ (l : List ℕ). SameOn (Outside (copy_to x k) (copy_size x k)) l image) (settled on.from on.was) on.same))
    kept.images

-- ---- where a copy reads and writes

module _ (x : Exchange) (size : ℕ) (fits : FitsDisk x size) (n : ℕ) (some : 4096 * n < longest x) where
  from_fits_by : (step : ℕ) → step < 3 → piece_from x n step + piece_size x n ≤ size
  from_fits_by zero lt = omega (arith, fits.first, some)
  from_fits_by (suc zero) lt = omega (arith, fits.second, some)
  from_fits_by (suc (suc zero)) lt = omega (arith, fits.scratch, some)
  from_fits_by (suc (suc (suc step))) lt = absurd (omega arith)

  to_fits_by : (step : ℕ) → step < 3 → piece_to x n step + piece_size x n ≤ size
  to_fits_by zero lt = omega (arith, fits.scratch, some)
  to_fits_by (suc zero) lt = omega (arith, fits.first, some)
  to_fits_by (suc (suc zero)) lt = omega (arith, fits.second, some)
  to_fits_by (suc (suc (suc step))) lt = absurd (omega arith)

module _ (x : Exchange) (n : ℕ) (some : 4096 * n < longest x) (i : ℕ) (out : OutsideEach (areas x) i) where
  out_by : (step : ℕ) → step < 3 → Outside (piece_to x n step) (piece_size x n) i
  out_by zero lt = ⊎_elim (λ h. inl h) (λ h. inr (omega (arith, h))) out.1.1.0
  out_by (suc zero) lt = ⊎_elim (λ h. inl (omega (arith, h))) (λ h. inr (omega (arith, h, some))) out.0
  out_by (suc (suc zero)) lt = ⊎_elim (λ h. inl (omega (arith, h))) (λ h. inr (omega (arith, h, some))) out.1.0
  out_by (suc (suc (suc step))) lt = absurd (omega arith)

pub from_fits : (x : Exchange) (k size : ℕ) → FitsDisk x size → k < copies x → copy_from x k + copy_size x k ≤ size
from_fits x k size fits lt = from_fits_by x size fits (k / 3) (in_contents x k lt) (k % 3) (step_of k)

pub to_fits : (x : Exchange) (k size : ℕ) → FitsDisk x size → k < copies x → copy_to x k + copy_size x k ≤ size
to_fits x k size fits lt = to_fits_by x size fits (k / 3) (in_contents x k lt) (k % 3) (step_of k)

pub kept_areas : (x : Exchange) (k : ℕ) (a b : Flash) → k < copies x → Keeps (Outside (copy_to x k) (copy_size x k)) a b → Keeps (OutsideEach (areas x)) a b
kept_areas x k a b lt kept =
    keeps_fewer (OutsideEach (areas x)) (Outside (copy_to x k) (copy_size x k)) (λ i out. out_by x (k / 3) (in_contents x k lt) i out (k % 3) (step_of k)) a b kept

-- the copy and its range, in the numbers that the code computes
pub as_copy : (x : Exchange) (k from to n : ℕ) (old new : List ℕ) → from ≡ copy_from x k → to ≡ copy_to x k → n ≡ copy_size x k → IsCopy from to n old new
    → IsCopy (copy_from x k) (copy_to x k) (copy_size x k) old new
as_copy x k from to n old new from-is to-is n-is copy =
    subst (λ (m : ℕ). IsCopy (copy_from x k) (copy_to x k) m old new) n-is
    (subst (λ (m : ℕ). IsCopy (copy_from x k) m n old new) to-is (subst (λ (m : ℕ). IsCopy m to n old new) from-is copy))

pub as_kept : (x : Exchange) (k to n : ℕ) (a b : Flash) → to ≡ copy_to x k → n ≡ copy_size x k → Keeps (Outside to n) a b → Keeps (Outside (copy_to x k) (copy_size x k)) a b
as_kept x k to n a b to-is n-is kept = subst (λ (m : ℕ). Keeps (Outside (copy_to x k) m) a b) n-is (subst (λ (m : ℕ). Keeps (Outside m n) a b) to-is kept)

-- a part of the room
pub part_long : (room : List ℕ) (size : ℕ) → size ≤ length room → length (take size room) ≡ size
part_long room size le = length-take-le size room le

pub short_copy : (x : Exchange) (k : ℕ) → copy_size x k ≤ 4096
short_copy x k = omega arith
