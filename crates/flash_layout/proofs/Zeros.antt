-- Lengths that are set to 0.
use Rattle.std.proofs.Common.{◌≡◌, inl, inr, ⊎_elim, ℕ, ◌+◌, ◌-◌, ◌<◌, ◌≤◌, List, length, get_or, replicate, sym, ap, subst, ◌∙◌, below_more, arith}
use Rattle.std.specs.List.{All}
use Rattle.std.proofs.lemmas.Bool.{cases_lt}
use Rattle.std.proofs.lemmas.List.{get_or-replicate}
use Rattle.std.proofs.lemmas.List.Elements.{All-weaker, All-get_or}
use Rattle.suit_edge.specs.Ranges.{Outside, written}
use Rattle.suit_edge.specs.Flash.{Flash, Keeps, IsFlash}
use Rattle.suit_edge.specs.FlashLaws.{keeps_fewer, keeps_then}
use Rattle.suit_edge.specs.RangeLaws.{written_outside, written_within}
use Rattle.flash_layout.specs.declared.layout.Entry.{Entry}
use Rattle.flash_layout.specs.Layouts.{slot_starts}
use Rattle.flash_layout.specs.Formats.{IsClearAt, KeepsZeros, OutsideLengths, OutsideAllLengths}
use Rattle.flash_layout.proofs.Found.{other_default}

-- zeros stay zeros
pub clear_keeps : (old new : List ℕ) (p : ℕ) → KeepsZeros old new → IsClearAt old p → IsClearAt new p
clear_keeps old new p keeps clear i low high = keeps i (clear i low high)

pub zeros_then : (a b c : List ℕ) → KeepsZeros a b → KeepsZeros b c → KeepsZeros a c
zeros_then a b c first second i zero = second i (first i zero)

-- eight zeros
module _ (old new : List ℕ) (p : ℕ) (fits : p + 8 ≤ length old) (wrote : new ≡ written old p (replicate 8 0)) where
  within : (i : ℕ) → p ≤ i → i < p + 8 → get_or new i 0 ≡ 0
  within i low high =
      let at : p + (i - p) ≡ i = omega (arith, low) in
      let lt : i - p < 8 = omega (arith, low, high) in
      ap (λ (l : List ℕ). get_or l i 0) wrote
      ∙ subst (λ (k : ℕ). get_or (written old p (replicate 8 0)) k 0 ≡ 0) at (written_within old p (replicate 8 0) fits (i - p) lt ∙ get_or-replicate 8 (i - p) 0 0 lt)

  pub clear_written : IsClearAt new p
  clear_written i low high = within i low high

  pub zeros_written : KeepsZeros old new
  zeros_written i zero = ⊎_elim
      (λ low. beside (inl low))
      (λ high. ⊎_elim (λ near. within i high near) (λ past. beside (inr past)) (cases_lt i (p + 8)))
      (cases_lt i p)
    where
      beside : Outside p 8 i → get_or new i 0 ≡ 0
      beside out = ap (λ (l : List ℕ). get_or l i 0) wrote ∙ (written_outside old p (replicate 8 0) fits).same i out ∙ zero

-- ---- one more slot

pub slot_clear : (old new : List ℕ) (starts : List ℕ) (k : ℕ) → get_or starts k 0 + 8 ≤ length old → new ≡ written old (get_or starts k 0) (replicate 8 0)
    → ((j : ℕ) → j < k → IsClearAt old (get_or starts j 0)) → (j : ℕ) → j < k + 1 → IsClearAt new (get_or starts j 0)
slot_clear old new starts k fits wrote before =
    below_more (λ (j : ℕ). IsClearAt new (get_or starts j 0)) k
    (λ j below. clear_keeps old new (get_or starts j 0) (zeros_written old new (get_or starts k 0) fits wrote) (before j below))
    (clear_written old new (get_or starts k 0) fits wrote)

pub slot_kept : (a b c : Flash) (size : ℕ) (starts : List ℕ) (k : ℕ) → IsFlash b size → k < length starts
    → Keeps (OutsideLengths starts) a b → Keeps (Outside (get_or starts k 0) 8) b c → Keeps (OutsideLengths starts) a c
slot_kept a b c size starts k law lt so_far kept =
    keeps_then (OutsideLengths starts) a b c size law so_far
    (keeps_fewer (OutsideLengths starts) (Outside (get_or starts k 0) 8) (λ i out. All-get_or (λ (q : ℕ). Outside q 8 i) starts k 0 lt out) b c kept)

-- ---- one more component

pub entry_kept : (a b c : Flash) (size : ℕ) (entries : List Entry) (k : ℕ) (e d : Entry) → IsFlash b size → k < length entries → e ≡ get_or entries k d
    → Keeps (OutsideAllLengths entries) a b → Keeps (OutsideLengths (slot_starts e)) b c → Keeps (OutsideAllLengths entries) a c
entry_kept a b c size entries k e d law lt is so_far kept =
    keeps_then (OutsideAllLengths entries) a b c size law so_far
    (keeps_fewer (OutsideAllLengths entries) (OutsideLengths (slot_starts e))
    (λ i out. subst (λ (x : Entry). OutsideLengths (slot_starts x) i) (sym is) (All-get_or (λ (x : Entry). OutsideLengths (slot_starts x) i) entries k d lt out)) b c kept)

pub entry_clear : (old new : List ℕ) (entries : List Entry) (k : ℕ) (e d : Entry) → k < length entries → e ≡ get_or entries k d
    → KeepsZeros old new → All (IsClearAt new) (slot_starts e) → ((j : ℕ) (x : Entry) → j < k → All (IsClearAt old) (slot_starts (get_or entries j x)))
    → (j : ℕ) (x : Entry) → j < k + 1 → All (IsClearAt new) (slot_starts (get_or entries j x))
entry_clear old new entries k e d lt is zeros last before j x below =
    below_more (λ (m : ℕ). All (IsClearAt new) (slot_starts (get_or entries m x))) k
    (λ m early. All-weaker (IsClearAt old) (IsClearAt new) (λ p. clear_keeps old new p zeros) (slot_starts (get_or entries m x)) (before m x early))
    (subst (λ (y : Entry). All (IsClearAt new) (slot_starts y)) (is ∙ other_default entries k d x lt) last)
    j below
