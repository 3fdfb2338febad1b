-- Contents that become files: what a power loss on the way may leave of them.
use Rattle.std.proofs.Common.{◌≡◌, ◌≤◌, ◌+◌, ℕ, List, Option, Some, None, length, arith}
use Rattle.std.proofs.lemmas.List.Edits.{length-between}
use Rattle.suit_edge.specs.Flash.{Flash, Now, Passes}
use Rattle.suit_edge.specs.FlashLaws.{starts}
use Rattle.flash_layout.specs.declared.slot.Slot.{Slot}
use Rattle.flash_layout.specs.Slots.{LiesWithin}
use Rattle.flash_slots.specs.Contents.{pieces_of}
use Rattle.step_machine.specs.declared.spot.Spot.{Spot}
use Rattle.step_machine.specs.Replacing.{IsEmptyOrWholeAt, IsReplaced, IsReplacedBy}
use Rattle.step_machine.proofs.Replaced.{now_held}

held_still : (spot : Spot) (file : Option (List ℕ)) (a : Flash) (image : List ℕ) → Now a image → IsReplacedBy spot file a image
held_still spot None a image now = now
held_still spot (Some bytes) a image now = now_held spot bytes a image now

module _ (spot : Spot) (Is : Option (List ℕ) → Type 0) where
  -- nothing was done
  pub left_alone : (file : Option (List ℕ)) (a : Flash) → Is file → IsReplaced spot Is a a
  left_alone file a is = record { file = file; named = is; images = starts a (IsReplacedBy spot file a) (held_still spot file a) }

  -- it became this, or began to
  pub by_file : (file : List ℕ) (a b : Flash) → Is (Some file) → Passes a b (IsEmptyOrWholeAt spot file a) → IsReplaced spot Is a b
  by_file file a b is moments = record { file = Some file; named = is; images = moments }

  -- another says more of the file
  pub named_as : (P : Option (List ℕ) → Type 0) (a b : Flash) → ((file : Option (List ℕ)) → P file → Is file) → IsReplaced spot P a b → IsReplaced spot Is a b
  named_as P a b to is = record { file = is.file; named = to is.file is.named; images = is.images }

-- how many the pieces are
pub pieces_long : (slot : Slot) (n : ℕ) (image : List ℕ) → n ≤ slot.capacity → LiesWithin (length image) slot → n ≡ length (pieces_of slot n image)
pieces_long slot n image few inside = let long = length-between image (slot.start + 8) (slot.start + 8 + n) (omega (arith, inside, few)) in omega (arith, long)
