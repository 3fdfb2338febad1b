-- The frame of version 1, and what every frame of a flash has.
use Rattle.std.proofs.Common.{◌≡◌, ◌≤◌, ℕ, refl, sym, subst, arith}
use Rattle.flash_layout.specs.declared.frame.Frame.{Frame}
use Rattle.flash_layout.specs.declared.frame.TheConstants.{VERSION_1}
use Rattle.flash_layout.specs.Frames.{First, IsBase, IsFrame, Second}

pub is_first : (size : ℕ) (frame : Frame) → IsFrame size frame → frame.version ≡ 1 → frame ≡ VERSION_1
is_first size frame (First version base room) one = λ i. record { version = version i; base = base i }
is_first size frame (Second version base room low) one = absurd (omega (arith, version, one))

pub version_1 : (size : ℕ) → 49152 ≤ size → IsFrame size VERSION_1
version_1 size room = First refl refl room

-- a flash with a frame has room for the head of version 1
pub has_room : (size : ℕ) (frame : Frame) → IsFrame size frame → 49152 ≤ size
has_room size frame (First version base room) = room
has_room size frame (Second version base room low) = omega (arith, base, room)

-- the base of version 2 is after that head
pub second_base : (size : ℕ) (frame : Frame) → IsFrame size frame → frame.version ≡ 2 → 49152 ≤ frame.base
second_base size frame (First version base room) two = absurd (omega (arith, version, two))
second_base size frame (Second version base room low) two = base

-- and there is room after the base
pub second_parts : (size : ℕ) (frame : Frame) → IsFrame size frame → frame.version ≡ 2 → IsBase size frame.base
second_parts size frame (First version base room) two = absurd (omega (arith, version, two))
second_parts size frame (Second version base room low) two = (base, room)

module _ (size : ℕ) (frame : Frame) (is : IsFrame size frame) (one : frame.version ≡ 1) (P : Frame → Type 0) where
  pub of_first : P VERSION_1 → P frame
  of_first first = subst P (sym (is_first size frame is one)) first

  pub to_first : P frame → P VERSION_1
  to_first held = subst P (is_first size frame is one) held
