-- Laws of the frame that the root of an image gives, which no clause of a contract can state.
use Rattle.std.proofs.Common.{◌≡◌, ◌≢◌, ◌<◌, ◌^◌, ⊎_elim, ℕ, ◌+◌, ◌∷◌, Bool, refl, true, false, List, length, get_or, Option, Some, None, sym, ◌∙◌, ap, subst, arith}
use Rattle.std.specs.Prelude.{◌==◌, if◌then◌else◌}
use Rattle.std.specs.List.{slice_range}
use Rattle.std.proofs.lemmas.Nat.{from_be_bytes-to_be_bytes_8}
use Rattle.std.proofs.lemmas.Bool.{cases_eq, eq-eqb, ne_eqb}
use Rattle.std.proofs.lemmas.List.Edits.{get_or-between}
use Rattle.suit_edge.specs.Gate.{IsOpen}
use Rattle.flash_layout.specs.declared.frame.Frame.{Frame}
use Rattle.flash_layout.specs.declared.frame.TheConstants.{ROOT_GATE, VERSION_1}
use Rattle.flash_layout.specs.PageReading.{number_at}
use Rattle.flash_layout.specs.ConfigPage.{number_bytes}
use Rattle.flash_layout.specs.Roots.{frame_by, frame_in, frame_told, root_bytes, root_of, second_frame}

-- the gate of the root is its first byte
pub root_gate : (image : List ℕ) → get_or (root_of image) 0 0 ≡ get_or image 45056 0
root_gate image = get_or-between image 45056 45066 0 0 (omega arith)

shut_by : (root : List ℕ) → get_or root 0 0 ≢ 0xA5 → frame_by root ≡ Some VERSION_1
unfolding frame_by
shut_by root closed = ap (λ (b : Bool). if b then frame_in root else Some VERSION_1) (ne_eqb (get_or root 0 0) 0xA5 closed)

open_by : (root : List ℕ) → get_or root 0 0 ≡ 0xA5 → frame_by root ≡ frame_in root
unfolding frame_by
open_by root opened = ap (λ (b : Bool). if b then frame_in root else Some VERSION_1) (eq-eqb (get_or root 0 0) 0xA5 opened)

-- a closed root gives version 1
pub told_closed : (image : List ℕ) → (IsOpen image ROOT_GATE → ⊥) → frame_told image ≡ Some VERSION_1
told_closed image closed = shut_by (root_of image) (λ opened. closed (sym (root_gate image) ∙ opened))

some_same : (a b : Frame) → ◌≡◌ {A = Option Frame} (Some a) (Some b) → a ≡ b
some_same a b e = cc

none_some : (a : Frame) → ◌≡◌ {A = Option Frame} None (Some a) → ⊥
none_some a e = cc

version_of : (b : Bool) (base : ℕ) (frame : Frame) → (if b then Some (second_frame base) else None) ≡ Some frame → frame.version ≡ 2
version_of true base frame e = sym (ap (λ (f : Frame). f.version) (some_same (second_frame base) frame e))
version_of false base frame e = absurd (none_some frame e)

-- an open root gives no version but 2
second_in : (root : List ℕ) (frame : Frame) → frame_in root ≡ Some frame → frame.version ≡ 2
unfolding frame_in
second_in root frame e = version_of (get_or root 1 0 == 2) (number_at (slice_range root 2 10)) frame e

pub open_second : (image : List ℕ) (frame : Frame) → frame_told image ≡ Some frame → IsOpen image ROOT_GATE → frame.version ≡ 2
open_second image frame told opened = second_in (root_of image) frame (sym (open_by (root_of image) (root_gate image ∙ opened)) ∙ told)

-- version 1 is given by a closed root, and version 2 by an open one
pub first_closed : (image : List ℕ) (frame : Frame) → frame_told image ≡ Some frame → frame.version ≡ 1 → IsOpen image ROOT_GATE → ⊥
first_closed image frame told one opened = omega (arith, one, open_second image frame told opened)

pub second_open : (image : List ℕ) (frame : Frame) → frame_told image ≡ Some frame → frame.version ≡ 2 → IsOpen image ROOT_GATE
second_open image frame told two = ⊎_elim (λ opened. opened) (λ closed. absurd (first closed)) (cases_eq (get_or image 45056 0) 0xA5)
  where
    first : (IsOpen image ROOT_GATE → ⊥) → ⊥
    first closed = omega (arith, two, ap (λ (f : Frame). f.version) (some_same VERSION_1 frame (sym (told_closed image closed) ∙ told)))

-- a root that gives nothing is open
pub untold_open : (image : List ℕ) → frame_told image ≡ None → IsOpen image ROOT_GATE
untold_open image none = ⊎_elim (λ opened. opened) (λ closed. absurd (none_some VERSION_1 (sym none ∙ told_closed image closed))) (cases_eq (get_or image 45056 0) 0xA5)

-- ---- roots by their bytes

pub closed_by : (gate : ℕ) (rest : List ℕ) → gate ≢ 0xA5 → frame_by (gate ∷ rest) ≡ Some VERSION_1
closed_by gate rest closed = shut_by (gate ∷ rest) closed

pub other_by : (version : ℕ) (rest : List ℕ) → version ≢ 2 → frame_by (0xA5 ∷ version ∷ rest) ≡ None
unfolding frame_in
other_by version rest other =
    open_by (0xA5 ∷ version ∷ rest) refl
    ∙ ap (λ (b : Bool). if b then Some (second_frame (number_at (slice_range (0xA5 ∷ version ∷ rest) 2 10))) else None) (ne_eqb version 2 other)

number_there : (base : ℕ) → slice_range (root_bytes (second_frame base)) 2 10 ≡ number_bytes base
unfolding number_bytes
number_there base = refl

number_back : (base : ℕ) → base < 2 ^ 64 → number_at (number_bytes base) ≡ base
unfolding number_at number_bytes
number_back base fits = from_be_bytes-to_be_bytes_8 base fits

pub told_by : (base : ℕ) → base < 2 ^ 64 → frame_by (root_bytes (second_frame base)) ≡ Some (second_frame base)
unfolding frame_in
told_by base fits =
    open_by (root_bytes (second_frame base)) refl ∙ ap (λ (n : ℕ). Some (second_frame n)) (ap number_at (number_there base) ∙ number_back base fits)

pub told_frame : (frame : Frame) → frame.version ≡ 2 → frame.base < 2 ^ 64 → frame_by (root_bytes frame) ≡ Some frame
told_frame frame two fits = subst (λ (f : Frame). frame_by (root_bytes f) ≡ Some f) (sym is) (told_by frame.base fits)
  where
    is : frame ≡ second_frame frame.base
    is = λ i. record { version = two i; base = frame.base }
