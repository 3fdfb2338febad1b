-- A disk whose blocks are as they are on the device.
use Rattle.std.proofs.Common.{◌≡◌, ◌⊎◌, ⊎_elim, ◌<◌, ◌≤◌, ◌+◌, ◌*◌, ℕ, List, length, None, refl, sym, ◌∙◌, ap, subst, arith, get_or-take}
use Rattle.std.specs.List.{slice_range}
use Rattle.std.proofs.lemmas.List.{ext_get_or}
use Rattle.std.proofs.lemmas.List.Edits.{length-between, get_or-between}
use Rattle.nor_flash.specs.declared.phase.Phase.{Phase}
use Rattle.nor_flash.specs.declared.phase.Phase.TheVariants as phases
use Rattle.nor_flash.specs.Blocks.{front, named, plain}
use Rattle.nor_flash.specs.NorDisks.{AreErased, HoldsPhase, seen}
use Rattle.nor_flash.specs.NorLaws.{length-front}
use Rattle.nor_flash.proofs.BlockLemmas.{blank_name, blank_none, erased_name, plain_unnamed}

module _ (m : ℕ) (few : m ≤ blank_name) (a : List ℕ) (fits : length a ≡ 4096 * (m + 4)) where
  -- no block is named
  pub erased_unnamed : AreErased m a → named m a ≡ None
  erased_unnamed erased = blank_none m few a 1 (omega arith) (omega arith) (erased_name m a fits (m + 1) (omega arith) erased.0)

  pub settled_front : AreErased m a → plain m a ≡ front m a
  settled_front erased = plain_unnamed m a (erased_unnamed erased)

  pub settled_sees : (phase : Phase) → phase ≡ phases.Settled → HoldsPhase m phase a → seen m phase a ≡ front m a
  settled_sees phase is holds =
      subst (λ (p : Phase). seen m p a ≡ front m a) (sym is) (settled_front (subst (λ (p : Phase). HoldsPhase m p a) is holds))

  -- it reads as when a rewrite was given up, or nothing was known
  pub cleared_sees : AreErased m a → (phase : Phase) → (phase ≡ phases.GivenUp) ⊎ (phase ≡ phases.Unsettled) → plain m a ≡ seen m phase a
  cleared_sees erased phase can = ⊎_elim
      (λ given. subst (λ (p : Phase). plain m a ≡ seen m p a) (sym given) (settled_front erased))
      (λ unsettled. subst (λ (p : Phase). plain m a ≡ seen m p a) (sym unsettled) refl) can

  -- a part of the disk
  pub front_part : (from to : ℕ) → from ≤ to → to ≤ 4096 * m → slice_range (front m a) from to ≡ slice_range a from to
  front_part from to low high =
      let size = length-front m (length a) (λ some. omega (arith, fits)) a refl in
      let l = length-between (front m a) from to (omega (arith, size, high)) in
      let r = length-between a from to (omega (arith, fits, high)) in
      ext_get_or 0 (slice_range (front m a) from to) (slice_range a from to) (l ∙ sym r)
      (λ i lt. let in_range : from + i < to = omega (arith, l, lt) in
      get_or-between (front m a) from to i 0 in_range ∙ get_or-take (4096 * m) a (from + i) 0 (omega (arith, in_range, high)) ∙ sym (get_or-between a from to i 0 in_range))

  pub settled_part : AreErased m a → (from to : ℕ) → from ≤ to → to ≤ 4096 * m → slice_range (plain m a) from to ≡ slice_range a from to
  settled_part erased from to low high = ap (λ (l : List ℕ). slice_range l from to) (settled_front erased) ∙ front_part from to low high
