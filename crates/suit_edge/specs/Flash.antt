-- A disk over time: what reads return, and the images that a power loss may leave.
use Rattle.std.specs.Prelude.{◌≡◌, ◌⊎◌, ◌≤◌, ℕ, List, length}
use Rattle.suit_edge.specs.Ranges.{AreBytes, SameOn}

pub record Flash : Type 1 where
  -- what reads return
  pub reads : List ℕ
  -- the present moment, a number that does not fall
  pub clock : ℕ
  -- the images that a power loss at some moment since this one may leave
  pub may : ℕ → List ℕ → Type 0

-- a power loss now may leave the image
abbrev pub Now : Flash → List ℕ → Type 0
Now f image = f.may f.clock image

-- the laws of every disk
pub record IsFlash (f : Flash) (size : ℕ) : Type 0 where
  pub fits : length f.reads ≡ size
  pub sized : (t : ℕ) (image : List ℕ) → t ≤ f.clock → f.may t image → length image ≡ size
  -- what reads return is one of the images
  pub reads_may : Now f f.reads
  -- if reads return bytes, so do the images of a power loss
  pub bytes : AreBytes f.reads → (image : List ℕ) → Now f image → AreBytes image
  -- a power loss since an earlier moment may leave no fewer images
  pub sooner : (t u : ℕ) (image : List ℕ) → t ≤ u → u ≤ f.clock → f.may u image → f.may t image

-- ---- from one moment to a later one

-- the images of a moment remain possible
abbrev pub Grows : Flash → Flash → Type 0
Grows old new = (t : ℕ) (image : List ℕ) → t ≤ old.clock → old.may t image → new.may t image

-- A power loss at any moment from old to new, both included, leaves only images with P.
pub record Passes (old new : Flash) (P : List ℕ → Type 0) : Type 0 where
  pub later : old.clock ≤ new.clock
  pub each : (image : List ℕ) → new.may old.clock image → P image
  -- the same if the calls began at an earlier moment
  pub before : (t : ℕ) (image : List ℕ) → t ≤ old.clock → new.may t image
      → old.may t image ⊎ P image

-- at the places of K, the image is one that a power loss may leave; elsewhere it holds any bytes
pub record ImageOn (K : ℕ → Type 0) (f : Flash) (image : List ℕ) : Type 0 where
  pub from : List ℕ
  pub was : Now f from
  pub same : SameOn K from image

-- the places of K keep what reads return, and so does each image of a power loss since
pub record Keeps (K : ℕ → Type 0) (old new : Flash) : Type 0 where
  pub reads : SameOn K old.reads new.reads
  pub images : Passes old new (ImageOn K old)

-- reads return the same, and a power loss leaves only images that it could leave before
pub record IsSame (old new : Flash) : Type 0 where
  pub reads : new.reads ≡ old.reads
  pub images : Passes old new (Now old)

-- ---- at a moment

-- nothing is pending: a power loss now leaves what reads return
abbrev pub IsSettled : Flash → Type 0
IsSettled f = (image : List ℕ) → Now f image → image ≡ f.reads

-- nothing is pending at the places of K: a power loss now leaves them as they read
abbrev pub IsFirmOn : (ℕ → Type 0) → Flash → Type 0
IsFirmOn K f = (image : List ℕ) → Now f image → SameOn K f.reads image
