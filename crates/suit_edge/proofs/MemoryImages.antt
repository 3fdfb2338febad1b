-- The images that a power loss may leave of a disk in memory, after one more step.
use Rattle.std.proofs.Common.{◌≡◌, ◌⊎◌, inl, inr, ⊎_elim, ◌<◌, ◌≤◌, ℕ, ◌+◌, ◌-◌, List, [], ◌∷◌, ◌++◌, length, take, drop, get_or, refl, sym, ◌∙◌, ap, subst, arith, length-append, length-drop, get_or-take}
use Rattle.std.proofs.lemmas.Bool.{cases_lt}
use Rattle.std.proofs.lemmas.List.{take-append-le, take_all, length-take-le, get_or-drop, ext_get_or}
use Rattle.suit_edge.specs.declared.step.Write.{Write}
use Rattle.suit_edge.specs.declared.step.Step.{Step}
use Rattle.suit_edge.specs.declared.step.Step.TheVariants.{Synced}
use Rattle.suit_edge.specs.Ranges.{Outside, SameOn, written}
use Rattle.suit_edge.specs.Flash.{Now, Grows, Passes, ImageOn, Keeps, IsSame, IsSettled}
use Rattle.suit_edge.specs.Moment.{Moment, OutsideAll, IsImage, after_steps, moment_of}
use Rattle.suit_edge.specs.MemoryDisk.{MayLeave, flash_of, write_of}
use Rattle.suit_edge.specs.MemoryLaws.{length-moment_of, length-written}
use Rattle.suit_edge.specs.RangeLaws.{written_outside, written_within, same_back}
use Rattle.suit_edge.proofs.Moments.{moment_of-write, moment_of-sync}

-- an image of the present moment, in both directions
pub now_from : (first : List ℕ) (steps : List Step) (image : List ℕ) → Now (flash_of first steps) image → IsImage (moment_of first steps) image
now_from first steps image now = subst (λ (l : List Step). IsImage (moment_of first l) image) (take_all now.moment steps now.since) now.left

pub now_to : (first : List ℕ) (steps : List Step) (image : List ℕ) → IsImage (moment_of first steps) image → Now (flash_of first steps) image
now_to first steps image is = record {
  moment = length steps;
  since = omega arith;
  past = omega arith;
  left = subst (λ (l : List Step). IsImage (moment_of first l) image) (sym (take_all (length steps) steps (omega arith))) is;
}

-- ---- any step

module _ (first : List ℕ) (steps new_steps : List Step) (s : Step) (more : new_steps ≡ steps ++ s ∷ []) where
  longer : length new_steps ≡ length steps + 1
  longer = omega (arith, ap length more, length-append steps (s ∷ []))

  front : (n : ℕ) → n ≤ length steps → take n new_steps ≡ take n steps
  front n le = ap (take n) more ∙ take-append-le n steps (s ∷ []) le

  -- the images of a moment remain possible
  pub grows_step : Grows (flash_of first steps) (flash_of first new_steps)
  grows_step t image le may = record {
    moment = may.moment;
    since = may.since;
    past = omega (arith, may.past, longer);
    left = subst (λ (l : List Step). IsImage (moment_of first l) image) (sym (front may.moment may.past)) may.left;
  }

  -- an image since the step is one of the moment after it, or was possible before
  step_or_before : (t : ℕ) (image : List ℕ) → MayLeave first new_steps t image → MayLeave first steps t image ⊎ IsImage (moment_of first new_steps) image
  step_or_before t image may = ⊎_elim
      (λ earlier. inl (record {
        moment = may.moment;
        since = may.since;
        past = omega (arith, longer, earlier);
        left = subst (λ (l : List Step). IsImage (moment_of first l) image) (front may.moment (omega (arith, longer, earlier))) may.left;
      }))
      (λ last. inr (subst (λ (l : List Step). IsImage (moment_of first l) image) (take_all may.moment new_steps last) may.left))
      (cases_lt may.moment (length new_steps))

  pub passes_step : (P : List ℕ → Type 0) → ((image : List ℕ) → Now (flash_of first steps) image → P image) → ((image : List ℕ) → IsImage (moment_of first new_steps) image → P image)
      → Passes (flash_of first steps) (flash_of first new_steps) P
  passes_step P old new = record {
    later = omega (arith, longer);
    each = λ image may. ⊎_elim (old image) (new image) (step_or_before (length steps) image may);
    before = λ t image le may. ⊎_elim (λ h. inl h) (λ h. inr (new image h)) (step_or_before t image may);
  }

-- ---- a write

outside_push : (writes : List Write) (w : Write) (i : ℕ) → OutsideAll writes i → Outside w.place (length w.bytes) i → OutsideAll (writes ++ w ∷ []) i
outside_push [] w i all out = (out, tt)
outside_push (v ∷ writes) w i all out = (all.0, outside_push writes w i all.1 out)

inside : (place n i : ℕ) → Outside place n i ⊎ ((place ≤ i) × (i < place + n))
inside place n i = ⊎_elim (λ h. inl (inl h)) (λ h. ⊎_elim (λ k. inr (h, k)) (λ k. inl (inr k)) (cases_lt i (place + n))) (cases_lt i place)

-- the moment after the write
wrote : Moment → Write → Moment
wrote m w = record { settled = m.settled; reads = written m.reads w.place w.bytes; pending = m.pending ++ w ∷ [] }

-- each image of the moment after is one of the moment before, with other bytes in the range
before_write : (m : Moment) (w : Write) (image : List ℕ) → w.place + length w.bytes ≤ length m.reads → IsImage (wrote m w) image
    → (from : List ℕ) × IsImage m from × SameOn (Outside w.place (length w.bytes)) from image
unfolding wrote
before_write m w image fits is =
    let place = w.place in
    let n = length w.bytes in
    let old = take n (drop place m.reads) in
    let size : length old ≡ n = length-take-le n (drop place m.reads) (omega (arith, length-drop place m.reads)) in
    let long : length image ≡ length m.reads = is.stays.size ∙ length-written m.reads place w.bytes fits in
    let fits_old : place + length old ≤ length image = omega (arith, long, size) in
    let from = written image place old in
    let out = written_outside image place old fits_old in
    let same : SameOn (Outside place n) from image = subst (λ (k : ℕ). SameOn (Outside place k) from image) size (same_back (Outside place (length old)) image from out) in
    let beside : (i : ℕ) → Outside place n i → get_or (written m.reads place w.bytes) i 0 ≡ get_or m.reads i 0 = (written_outside m.reads place w.bytes fits).same in
    let within : (i : ℕ) → (place ≤ i) × (i < place + n) → get_or from i 0 ≡ get_or m.reads i 0 = λ i near.
    let at : place + (i - place) ≡ i = omega (arith, near.0) in
    subst (λ (k : ℕ). get_or from k 0 ≡ get_or m.reads k 0) at
    (written_within image place old fits_old (i - place) (omega (arith, near.0, near.1, size)) ∙ get_or-take n (drop place m.reads) (i - place) 0 (omega (arith, near.0, near.1)) ∙ get_or-drop place m.reads (i - place) 0) in (
      from,
      record {
        stays = record {
          size = sym same.size ∙ long;
          same = λ i all. ⊎_elim
              (λ far. sym (same.same i far) ∙ is.stays.same i (outside_push m.pending w i all far) ∙ beside i far)
              (within i)
              (inside place n i);
        };
        bytes = λ i. ⊎_elim
            (λ far. ⊎_elim (λ lt. inl (omega (arith, lt, same.same i far))) (λ at. inr (sym (same.same i far) ∙ at ∙ beside i far)) (is.bytes i))
            (λ near. inr (within i near))
            (inside place n i);
      },
      same,
    )

module _ (first : List ℕ) (steps new_steps : List Step) (place : ℕ) (bytes : List ℕ) (fits : place + length bytes ≤ length first) (more : new_steps ≡ steps ++ write_of place bytes ∷ []) where
  after : moment_of first new_steps ≡ wrote (moment_of first steps) (record { place = place; bytes = bytes })
  unfolding wrote
  after = ap (moment_of first) more ∙ moment_of-write first steps place bytes fits

  -- reads return the new bytes in their range
  pub reads_write : (moment_of first new_steps).reads ≡ written (moment_of first steps).reads place bytes
  unfolding wrote
  reads_write = ap (λ (m : Moment). m.reads) after

  fits_reads : place + length bytes ≤ length (moment_of first steps).reads
  fits_reads = omega (arith, fits, length-moment_of first steps)

  -- everything else is left alone
  pub keeps_write : Keeps (Outside place (length bytes)) (flash_of first steps) (flash_of first new_steps)
  keeps_write = record {
    reads = subst (λ (l : List ℕ). SameOn (Outside place (length bytes)) (moment_of first steps).reads l) (sym reads_write) (written_outside (moment_of first steps).reads place bytes fits_reads);
    images = passes_step first steps new_steps (write_of place bytes) more (ImageOn (Outside place (length bytes)) (flash_of first steps))
        (λ image now. record { from = image; was = now; same = record { size = refl; same = λ i k. refl } })
        (λ image is.
        let b = before_write (moment_of first steps) (record { place = place; bytes = bytes }) image fits_reads (subst (λ (m : Moment). IsImage m image) after is) in
        record { from = b.0; was = now_to first steps b.0 b.1; same = b.2 });
  }

-- ---- a sync

module _ (first : List ℕ) (steps new_steps : List Step) (more : new_steps ≡ steps ++ Synced ∷ []) where
  after_sync : moment_of first new_steps ≡ record { settled = (moment_of first steps).reads; reads = (moment_of first steps).reads; pending = [] }
  after_sync = ap (moment_of first) more ∙ moment_of-sync first steps

  alone : (image : List ℕ) → IsImage (moment_of first new_steps) image → image ≡ (moment_of first steps).reads
  alone image is =
      let there = subst (λ (m : Moment). IsImage m image) after_sync is in
      ext_get_or 0 image (moment_of first steps).reads there.stays.size (λ i h. there.stays.same i tt)

  pub reads_sync : (moment_of first new_steps).reads ≡ (moment_of first steps).reads
  reads_sync = ap (λ (m : Moment). m.reads) after_sync

  -- nothing is pending
  pub settled_sync : IsSettled (flash_of first new_steps)
  settled_sync image now = alone image (now_from first new_steps image now) ∙ sym reads_sync

  pub same_sync : IsSame (flash_of first steps) (flash_of first new_steps)
  same_sync = record {
    reads = reads_sync;
    images = passes_step first steps new_steps Synced more (Now (flash_of first steps)) (λ image now. now)
        (λ image is. subst (λ (l : List ℕ). Now (flash_of first steps) l) (sym (alone image is)) (now_to first steps (moment_of first steps).reads (record { stays = record { size = refl; same = λ i out. refl }; bytes = λ i. inr refl })));
  }

-- ---- no step yet

pub settled_start : (first : List ℕ) → IsSettled (flash_of first [])
unfolding moment_of after_steps
settled_start first image now = let is = now_from first [] image now in ext_get_or 0 image first is.stays.size (λ i h. is.stays.same i tt)
