-- Completing a swap, starting from the flash as it was found.
use Rattle.std.proofs.Common.{◌≡◌, inl, inr, ℕ, List, sym, subst}
use Rattle.suit_edge.specs.Flash.{Flash, IsFlash, IsSame, Keeps, Now, Passes}
use Rattle.suit_edge.specs.FlashLaws.{joined, keeps_same, keeps_then, weakens}
use Rattle.suit_edge.specs.Ranges.{OutsideEach}
use Rattle.swap_journal.specs.declared.swap.Journal.{Journal}
use Rattle.swap_journal.specs.declared.swap.Swap.{Swap}
use Rattle.swap_journal.specs.Swaps.{GoesOn, StillOrGoesOn, swap_at, touched, touched_by}

-- nothing has been written yet
pub still : (journal : Journal) (a b : Flash) → IsSame a b → Passes a b (StillOrGoesOn journal a)
still journal a b same = weakens a b (Now a) (StillOrGoesOn journal a) (λ image now. inl now) same.images

pub going_on : (journal : Journal) (swap : Swap) (a b c : Flash) → IsSame a b → swap_at a.reads journal.page ≡ swap → Passes b c (GoesOn journal swap b.reads) → Passes a c (StillOrGoesOn journal a)
going_on journal swap a b c same is pass =
    joined a b c (StillOrGoesOn journal a) (still journal a b same)
    (weakens b c (GoesOn journal swap b.reads) (StillOrGoesOn journal a)
    (λ image goes. inr (subst (λ (s : Swap). GoesOn journal s a.reads image) (sym is) (subst (λ (l : List ℕ). GoesOn journal swap l image) same.reads goes))) pass)

pub swap_kept : (journal : Journal) (swap : Swap) (a b c : Flash) (size : ℕ) → IsFlash b size → IsSame a b → swap_at a.reads journal.page ≡ swap → Keeps (OutsideEach (touched journal swap.first swap.second)) b c
    → Keeps (OutsideEach (touched_by journal a.reads)) a c
swap_kept journal swap a b c size law same is kept =
    keeps_then (OutsideEach (touched_by journal a.reads)) a b c size law (keeps_same (OutsideEach (touched_by journal a.reads)) a b same)
    (subst (λ (s : Swap). Keeps (OutsideEach (touched journal s.first s.second)) b c) (sym is) kept)
