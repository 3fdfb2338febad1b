-- Flash after reads, and after writes at one or two components.
use Rattle.std.proofs.Common.{◌≡◌, ◌≢◌, ◌≤◌, ◌<◌, ◌⊎◌, ◌∙◌, ◌+◌, ℕ, List, Err, length, ap, sym, subst, arith}
use Rattle.suit_edge.specs.Flash.{Flash, IsFlash, IsSame, Keeps}
use Rattle.suit_edge.specs.FlashLaws.{keeps_fewer, keeps_same, keeps_then}
use Rattle.suit_edge.specs.Ranges.{Outside}
use Rattle.flash_layout.specs.declared.slot.Slot.{Slot}
use Rattle.flash_slots.specs.RamContents.{Held}
use Rattle.path_model.specs.declared.cause.Cause.TheVariants as causes
use Rattle.step_machine.specs.declared.spot.Spot.{Spot}
use Rattle.step_machine.specs.declared.spot.Spot.TheVariants as spots
use Rattle.step_machine.specs.Areas.{OutsideRoom, size_at}
use Rattle.step_machine.specs.declared.spot.Standing.{Standing}
use Rattle.step_machine.specs.Copying.{CopiesAs, SwapsAs, side_of}
use Rattle.step_machine.specs.Spots.{IsRamBut, IsSpot, OutsideSpot, content_of}
use Rattle.step_machine.specs.Devices.{AreSpotsClear}
use Rattle.step_machine.proofs.Ranging.{keeps_wider}
use Rattle.step_machine.proofs.Lifting.{kept_content}
use Rattle.step_machine.proofs.CopyPlays.{copy_cut}
use Rattle.step_machine.proofs.SwapPlays.{swap_cut, swap_large}

-- ---- what is kept

pub read_then : (K : ℕ → Type 0) (a b c : Flash) (n : ℕ) → IsFlash b n → IsSame a b → Keeps K b c → Keeps K a c
read_then K a b c n law same kept = keeps_then K a b c n law (keeps_same K a b same) kept

pub two_reads : (K : ℕ → Type 0) (a b c : Flash) (n : ℕ) → IsFlash b n → IsSame a b → IsSame b c → Keeps K a c
two_reads K a b c n law one other = read_then K a b c n law one (keeps_same K b c other)

pub two_reads_then : (K : ℕ → Type 0) (a b c d : Flash) (m n : ℕ) → IsFlash b m → IsFlash c n → IsSame a b → IsSame b c → Keeps K c d → Keeps K a d
two_reads_then K a b c d m n law other_law one other kept = read_then K a b d m law one (read_then K b c d n other_law other kept)

-- two parts were written, one after the other
module _ (K L : ℕ → Type 0) (a b c : Flash) (n : ℕ) (law : IsFlash b n) (before : Keeps (λ i. K i × L i) a b) where
  pub first_written : Keeps K b c → Keeps (λ i. K i × L i) a c
  first_written kept =
      keeps_then (λ i. K i × L i) a b c n law before (keeps_fewer (λ i. K i × L i) K (λ i k. k.0) b c kept)

  pub second_written : Keeps L b c → Keeps (λ i. K i × L i) a c
  second_written kept =
      keeps_then (λ i. K i × L i) a b c n law before (keeps_fewer (λ i. K i × L i) L (λ i k. k.1) b c kept)

pub both_written : (K L : ℕ → Type 0) (a b c d : Flash) (m n : ℕ) → IsFlash b m → IsFlash c n → Keeps (λ i. K i × L i) a b → Keeps K b c → Keeps L c d → Keeps (λ i. K i × L i) a d
both_written K L a b c d m n law other_law before first second =
    second_written K L a c d n other_law (first_written K L a b c m law before first) second

-- a piece of a slot was written
pub piece_kept : (spot : Spot) (slot : Slot) (ram : List Held) (f g : Flash) (from n : ℕ) → spot ≡ spots.Flash slot → from + n ≤ size_at spot ram → Keeps (Outside (slot.start + 8 + from) n) f g → Keeps (OutsideRoom spot) f g
piece_kept spot slot ram f g from n is within kept =
    let few : from + n ≤ slot.capacity = subst (λ (x : Spot). from + n ≤ size_at x ram) is within in
    subst (λ (x : Spot). Keeps (OutsideRoom x) f g) (sym is) (keeps_wider (slot.start + 8) slot.capacity (slot.start + 8 + from) n (omega arith) (omega (arith, few)) f g kept)

-- a read, and then another content changes
pub source_stays : (standing source : Spot) (ram after : List Held) (first : List ℕ) (f g : Flash) (size : ℕ) → AreSpotsClear standing source → IsSpot size ram source → f.reads ≡ first → length f.reads ≡ size → IsRamBut standing ram after → Keeps (OutsideSpot standing) f g
    → content_of source after g.reads ≡ content_of source ram first
source_stays standing source ram after first f g size clear inside same long but kept =
    kept_content standing source ram after f g clear (subst (λ (n : ℕ). IsSpot n ram source) (sym long) inside) but kept ∙ ap (content_of source ram) same

-- ---- a swap that only reads

module _ (standing source : Standing) (ram : List Held) (first now : List ℕ) (apart : source.component ≢ standing.component) (same : now ≡ first) where
  stays : (x : Standing) → content_of x.spot ram now ≡ content_of x.spot ram first
  stays x = ap (content_of x.spot ram) same

  pub swap_unread : length (content_of standing.spot ram first) ≤ standing.capacity → length (content_of source.spot ram first) ≤ source.capacity
      → SwapsAs (side_of standing.component standing.capacity (content_of standing.spot ram first) (content_of standing.spot ram now))
      (side_of source.component source.capacity (content_of source.spot ram first) (content_of source.spot ram now)) (Err causes.FlashFault)
  swap_unread short other_short =
      swap_cut (side_of standing.component standing.capacity (content_of standing.spot ram first) (content_of standing.spot ram now))
      (side_of source.component source.capacity (content_of source.spot ram first) (content_of source.spot ram now)) apart
      (subst (λ (l : List ℕ). length l ≤ standing.capacity) (sym (stays standing)) short) (subst (λ (l : List ℕ). length l ≤ source.capacity) (sym (stays source)) other_short)

  pub swap_too_large : (standing.capacity < length (content_of source.spot ram first)) ⊎ (source.capacity < length (content_of standing.spot ram first))
      → SwapsAs (side_of standing.component standing.capacity (content_of standing.spot ram first) (content_of standing.spot ram now))
      (side_of source.component source.capacity (content_of source.spot ram first) (content_of source.spot ram now)) (Err causes.TooLarge)
  swap_too_large large =
      swap_large (side_of standing.component standing.capacity (content_of standing.spot ram first) (content_of standing.spot ram now))
      (side_of source.component source.capacity (content_of source.spot ram first) (content_of source.spot ram now)) apart large (stays standing) (stays source)

-- ---- a copy that only reads

pub copy_unread : (standing source : Standing) (ram : List Held) (first now : List ℕ) → source.component ≢ standing.component → now ≡ first → length (content_of standing.spot ram first) ≤ standing.capacity
    → CopiesAs standing.component standing.capacity source.component (content_of source.spot ram first) (content_of standing.spot ram first) (content_of standing.spot ram now) (Err causes.FlashFault)
copy_unread standing source ram first now apart same short =
    copy_cut standing.component standing.capacity source.component (content_of source.spot ram first) (content_of standing.spot ram first) (content_of standing.spot ram now) apart
    (subst (λ (l : List ℕ). length (content_of standing.spot ram l) ≤ standing.capacity) (sym same) short)
