-- The writes since the last sync are those that are pending.
use Rattle.std.proofs.Common.{◌≡◌, inl, ⊎_elim, arith, List, ℕ, [], ◌∷◌, ◌++◌, map, refl, sym, ◌∙◌, ap, subst, append_assoc, append-nil}
use Rattle.suit_edge.specs.declared.step.Write.{Write}
use Rattle.suit_edge.specs.declared.step.Step.{Step}
use Rattle.suit_edge.specs.declared.step.Step.TheVariants.{Wrote, Synced}
use Rattle.suit_edge.specs.Ranges.{SameOn}
use Rattle.suit_edge.specs.Moment.{Moment, after_step, after_steps, moment_of, OutsideAll}
use Rattle.suit_edge.specs.LossLaws.{Leaves, LossLaw}
use Rattle.suit_edge.proofs.MemoryImages.{now_from, now_to}

after_steps-append : (m : Moment) (xs ys : List Step) → after_steps m (xs ++ ys) ≡ after_steps (after_steps m xs) ys
unfolding after_steps
after_steps-append m [] ys = refl
after_steps-append m (x ∷ xs) ys = after_steps-append (after_step m x) xs ys

pending-writes : (m : Moment) (writes : List Write) → (after_steps m (map (λ w. Wrote w) writes)).pending ≡ m.pending ++ writes
unfolding after_steps after_step
pending-writes m [] = sym (append-nil m.pending)
pending-writes m (w ∷ writes) = pending-writes (after_step m (Wrote w)) writes ∙ append_assoc m.pending (w ∷ []) writes

leaves : (first : List ℕ) (steps : List Step) (writes : List Write) → (moment_of first steps).pending ≡ writes → Leaves first steps writes
leaves first steps writes is bytes image =
    let reads = (moment_of first steps).reads in (
      λ now. let left = now_from first steps image now in (
        subst (λ (l : List Write). SameOn (OutsideAll l) reads image) is left.stays,
        λ i. ⊎_elim (λ lt. lt) (λ at. omega (arith, at, bytes i)) (left.bytes i),
      ),
      λ same. now_to first steps image (record { stays = subst (λ (l : List Write). SameOn (OutsideAll l) reads image) (sym is) same.0; bytes = λ i. inl (same.1 i) }),
    )

pub loss_law : LossLaw
unfolding moment_of after_steps after_step
loss_law = record {
  since_sync = λ first before writes.
      let start : Moment = record { settled = first; reads = first; pending = [] } in
      leaves first (before ++ Synced ∷ map (λ w. Wrote w) writes) writes
      (ap (λ (m : Moment). m.pending) (after_steps-append start before (Synced ∷ map (λ w. Wrote w) writes)) ∙ pending-writes (after_step (after_steps start before) Synced) writes);
  since_start = λ first writes. leaves first (map (λ w. Wrote w) writes) writes (pending-writes (record { settled = first; reads = first; pending = [] }) writes);
}
