-- A disk that is read in place.
use Rattle.std.proofs.Common.{◌≡◌, ℕ, List, length, refl, ap, sym, subst}
use Rattle.suit_edge.specs.Flash.{Flash, IsFlash}
use Rattle.suit_edge.specs.Ranges.{AreBytes}

-- the bytes, and how often a call has failed
pub record ViewState : Type 0 where
  pub bytes : List ℕ
  pub faults : ℕ

-- reads return these bytes, and a power loss at any moment leaves them
abbrev pub view_flash : List ℕ → Flash
view_flash bytes = record { reads = bytes; clock = 0; may = λ t image. image ≡ bytes }

pub view_obeys : (bytes : List ℕ) → IsFlash (view_flash bytes) (length bytes)
view_obeys bytes = record {
  fits = refl;
  sized = λ t image le may. ap length may;
  reads_may = refl;
  bytes = λ reads image now. subst AreBytes (sym now) reads;
  sooner = λ t u image le high may. may;
}
