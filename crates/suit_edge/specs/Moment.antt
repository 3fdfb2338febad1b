-- A disk in memory at a moment, given the writes and syncs that were done before it.
use Rattle.std.specs.Prelude.{◌≡◌, ◌⊎◌, ◌<◌, ◌+◌, ◌/◌, ◌%◌, ◌^◌, ℕ, Bool, cond, nat_eq, nat_le, List, [], ◌∷◌, ◌++◌, length, slice_index}
use Rattle.suit_edge.specs.declared.step.Write.{Write}
use Rattle.suit_edge.specs.declared.step.Step.{Step}
use Rattle.suit_edge.specs.declared.step.Step.TheVariants as step
use Rattle.suit_edge.specs.Ranges.{Outside, SameOn, written}

pub record Moment : Type 0 where
  -- the bytes at the last sync
  pub settled : List ℕ
  -- what reads return
  pub reads : List ℕ
  -- the writes since that sync, oldest first
  pub pending : List Write

-- the bytes after a write; one that does not fit changes nothing
unfoldable pub after_write : List ℕ → Write → List ℕ
after_write bytes w =
    cond (nat_le (w.place + length w.bytes) (length bytes)) (written bytes w.place w.bytes) bytes

unfoldable pub after_step : Moment → Step → Moment
after_step m (step.Wrote w) =
    record { settled = m.settled; reads = after_write m.reads w; pending = m.pending ++ w ∷ [] }
after_step m step.Synced = record { settled = m.reads; reads = m.reads; pending = [] }

unfoldable pub after_steps : Moment → List Step → Moment
after_steps m [] = m
after_steps m (s ∷ steps) = after_steps (after_step m s) steps

-- the moment after these steps, starting from these bytes
unfoldable pub moment_of : List ℕ → List Step → Moment
moment_of first steps = after_steps (record { settled = first; reads = first; pending = [] }) steps

-- ---- power loss

-- the place is outside the range of each write
abbrev pub OutsideAll : List Write → ℕ → Type 0
OutsideAll [] i = Unit {0}
OutsideAll (w ∷ writes) i = Outside w.place (length w.bytes) i × OutsideAll writes i

-- A power loss at this moment may leave the image: it holds any bytes in the ranges of the pending writes,
-- and elsewhere what reads return.
pub record IsImage (m : Moment) (image : List ℕ) : Type 0 where
  pub stays : SameOn (OutsideAll m.pending) m.reads image
  -- each is a byte, or what reads return
  pub bytes : (i : ℕ) → (slice_index image i < 256) ⊎ (slice_index image i ≡ slice_index m.reads i)

-- bit n modulo 64 of the choice is set
abbrev pub has_bit : ℕ → ℕ → Bool
has_bit choice n = nat_eq (choice / 2 ^ (n % 64) % 2) 1

-- the bytes after those writes that the choice keeps; the first of the writes is the n-th
unfoldable pub kept : ℕ → ℕ → List ℕ → List Write → List ℕ
kept choice n bytes [] = bytes
kept choice n bytes (w ∷ writes) =
    kept choice (n + 1) (cond (has_bit choice n) (after_write bytes w) bytes) writes

-- the image that a power loss leaves if just the pending writes of the choice survive
unfoldable pub lost : ℕ → Moment → List ℕ
lost choice m = kept choice 0 m.settled m.pending
