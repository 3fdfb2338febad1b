-- A page that vouches for the bytes in some ranges.
use Rattle.std.specs.Prelude.{◌⊎◌, ℕ, List, [], ◌∷◌, ◌++◌, length}
use Rattle.suit_edge.specs.Flash.{Flash, ImageOn}
use Rattle.suit_edge.specs.Gate.{IsOpen, IsOldPage, IsNewPage, page_at}
use Rattle.suit_edge.specs.Ranges.{Range, OutsideEach}

-- Outside the ranges and the page, the image is one of the start. An open page is the old one, or it is the
-- new one and everything else is as it was made before.
pub record IsVouched (ranges : List Range) (gate place : ℕ) (body made : List ℕ) (start : Flash)
    (image : List ℕ) : Type 0 where
  pub apart : ImageOn (OutsideEach (page_at gate place (length body) ++ ranges)) start image
  pub opens : IsOpen image gate
      → IsOldPage gate place (length body) start.reads image ⊎ IsNewPage gate place body made image

-- the one range of n bytes from the place on
abbrev pub bytes_at : ℕ → ℕ → List Range
bytes_at place n = record { place = place; size = n } ∷ []
