-- A page: bytes, and a gate byte that is open only while they are whole. The gate may be before or after
-- them.
use Rattle.std.specs.Prelude.{◌≡◌, ◌⊎◌, ◌+◌, ℕ, List, [], ◌∷◌, length, slice_index, slice_range}
use Rattle.suit_edge.specs.declared.page.TheConstants.{OPEN, CLOSED}
use Rattle.suit_edge.specs.declared.gate.Gate.{Gate}
use Rattle.suit_edge.specs.declared.gate.Gate.TheVariants as gates
use Rattle.suit_edge.specs.Flash.{Flash, Now, ImageOn}
use Rattle.suit_edge.specs.Ranges.{Range, Outside, OutsideEach, SameOn}

abbrev pub IsOpen : List ℕ → ℕ → Type 0
IsOpen image gate = slice_index image gate ≡ OPEN

-- a gate that holds this byte is in this state
abbrev pub IsGate : Gate → ℕ → Type 0
IsGate gates.Open byte = byte ≡ OPEN
IsGate gates.Closed byte = byte ≡ OPEN → ⊥

-- no image that a power loss may leave now has the gate open
abbrev pub IsShut : ℕ → Flash → Type 0
IsShut gate f = (image : List ℕ) → Now f image → IsOpen image gate → ⊥

-- the n bytes of the page
abbrev pub body_at : List ℕ → ℕ → ℕ → List ℕ
body_at image place n = slice_range image place (place + n)

-- the range of the gate and that of the n bytes
abbrev pub page_at : ℕ → ℕ → ℕ → List Range
page_at gate place n = record { place = gate; size = 1 } ∷ record { place = place; size = n } ∷ []

-- ---- closing a gate

-- An open gate is closed, and a closed one is left alone.
pub record Closes (gate : ℕ) (old new : List ℕ) : Type 0 where
  pub apart : SameOn (Outside gate 1) old new
  pub shut : IsOpen new gate → ⊥
  pub closed : IsOpen old gate → slice_index new gate ≡ CLOSED
  pub stays : (IsOpen old gate → ⊥) → new ≡ old

-- An image of the start, or, if the gate was open, one that differs from it only at the gate.
abbrev pub IsClosing : ℕ → Flash → List ℕ → Type 0
IsClosing gate start image =
    Now start image ⊎ (IsOpen start.reads gate × ImageOn (Outside gate 1) start image)

-- ---- writing a page

-- the page holds the new bytes, and everything else is as it was
pub record IsNewPage (gate place : ℕ) (body old image : List ℕ) : Type 0 where
  pub bytes : body_at image place (length body) ≡ body
  pub rest : SameOn (OutsideEach (page_at gate place (length body))) old image

-- Outside the page, an image of the start. If no image of the start has the gate open, an open page is the
-- new one.
pub record IsOpening (gate place : ℕ) (body : List ℕ) (start : Flash) (image : List ℕ)
    : Type 0 where
  pub apart : ImageOn (OutsideEach (page_at gate place (length body))) start image
  pub opens : IsShut gate start → IsOpen image gate → IsNewPage gate place body start.reads image

-- the page was open, and holds its old bytes
pub record IsOldPage (gate place n : ℕ) (old image : List ℕ) : Type 0 where
  pub opened : IsOpen old gate
  pub bytes : body_at image place n ≡ body_at old place n

-- Outside the page, an image of the start; an open page is the old one or the new one.
pub record IsGated (gate place : ℕ) (body : List ℕ) (start : Flash) (image : List ℕ) : Type 0 where
  pub apart : ImageOn (OutsideEach (page_at gate place (length body))) start image
  pub opens : IsOpen image gate
      → IsOldPage gate place (length body) start.reads image
      ⊎ IsNewPage gate place body start.reads image
