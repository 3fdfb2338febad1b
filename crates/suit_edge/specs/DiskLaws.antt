-- Bounds on every disk.
use Rattle.std.specs.Prelude.{◌≡◌, ◌≤◌, ℕ, List, length}
use Rattle.suit_edge.specs.Flash.{Flash, Now, Grows, IsSame, IsSettled}

-- A disk of this size, before and after a call.
pub record DiskLaw (size : ℕ) (before after : Flash) : Type 0 where
  -- what reads returned when the call began, a power loss since then may leave
  pub stays : Grows before after → after.may before.clock before.reads
  -- if the clock stood still and nothing is pending, reads return what they returned before
  pub still : after.clock ≡ before.clock → Grows before after → IsSettled after
      → after.reads ≡ before.reads
  -- a completed sync leaves no write pending
  pub pending : (image : List ℕ) → Now after image → (image ≡ after.reads → ⊥) → IsSettled after → ⊥
  -- the clock does not go back
  pub forward : IsSame before after → before.clock ≤ after.clock
  -- each image has the disk's size, and what reads return is an image
  pub sized : (image : List ℕ) → Now before image → length image ≡ size
  pub reads : Now before before.reads
