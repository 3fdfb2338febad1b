-- A disk in memory, one step later.
use Rattle.std.proofs.Common.{◌≡◌, ◌<◌, ◌≤◌, ℕ, ◌+◌, List, [], ◌∷◌, ◌++◌, Bool, true, false, cond, length, drop, get_or, inl, ⊎_elim, refl, sym, ◌∙◌, ap, subst, arith, length-append}
use Rattle.std.proofs.Math.Seq.{drop-length}
use Rattle.std.proofs.lemmas.Bool.{cases_lt, le-leb}
use Rattle.std.proofs.lemmas.Bool.Decides.{leb_tells}
use Rattle.std.proofs.lemmas.List.{drop-append-le, drop_all, drop_more}
use Rattle.suit_edge.specs.declared.step.Write.{Write}
use Rattle.suit_edge.specs.declared.step.Step.{Step}
use Rattle.suit_edge.specs.declared.step.Step.TheVariants.{Wrote, Synced}
use Rattle.suit_edge.specs.Ranges.{AreBytes, Outside, SameOn, written}
use Rattle.suit_edge.specs.Moment.{Moment, after_write, after_step, after_steps, moment_of, OutsideAll, IsImage, has_bit, kept, lost}
use Rattle.suit_edge.specs.MemoryDisk.{IsMoment, write_of, writes_of}
use Rattle.suit_edge.specs.MemoryLaws.{length-moment_of, length-written}
use Rattle.suit_edge.specs.RangeLaws.{written_outside, same_start, same_then, same_back, same_fewer}

-- ---- one write

pub after_write-fits : (bytes : List ℕ) (w : Write) → w.place + length w.bytes ≤ length bytes → after_write bytes w ≡ written bytes w.place w.bytes
unfolding after_write
after_write-fits bytes w fits = ap (λ (b : Bool). cond b (written bytes w.place w.bytes) bytes) (le-leb _ _ fits)

pub after_write-past : (bytes : List ℕ) (w : Write) → length bytes < w.place + length w.bytes → after_write bytes w ≡ bytes
unfolding after_write
after_write-past bytes w past = grind (arith, leb_tells)

-- ---- one step more

pub after_steps-push : (m : Moment) (steps : List Step) (s : Step) → after_steps m (steps ++ s ∷ []) ≡ after_step (after_steps m steps) s
unfolding after_steps
after_steps-push m [] s = refl
after_steps-push m (x ∷ steps) s = after_steps-push (after_step m x) steps s

pub moment_of-push : (first : List ℕ) (steps : List Step) (s : Step) → moment_of first (steps ++ s ∷ []) ≡ after_step (moment_of first steps) s
unfolding moment_of
moment_of-push first steps s = after_steps-push (record { settled = first; reads = first; pending = [] }) steps s

-- the moment after a write that fits
pub moment_of-write : (first : List ℕ) (steps : List Step) (place : ℕ) (bytes : List ℕ) → place + length bytes ≤ length first
    → moment_of first (steps ++ write_of place bytes ∷ []) ≡ record {
      settled = (moment_of first steps).settled;
      reads = written (moment_of first steps).reads place bytes;
      pending = (moment_of first steps).pending ++ record { place = place; bytes = bytes } ∷ [];
    }
unfolding after_step
moment_of-write first steps place bytes fits =
    let m = moment_of first steps in
    let w : Write = record { place = place; bytes = bytes } in
    moment_of-push first steps (Wrote w)
    ∙ ap (λ (l : List ℕ). record { settled = m.settled; reads = l; pending = m.pending ++ w ∷ [] }) (after_write-fits m.reads w (omega (arith, fits, length-moment_of first steps)))

-- the moment after a sync
pub moment_of-sync : (first : List ℕ) (steps : List Step)
    → moment_of first (steps ++ Synced ∷ []) ≡ record { settled = (moment_of first steps).reads; reads = (moment_of first steps).reads; pending = [] }
unfolding after_step
moment_of-sync first steps = moment_of-push first steps Synced

-- ---- the state that the disk keeps

writes_of-push : (steps : List Step) (w : Write) → writes_of (steps ++ Wrote w ∷ []) ≡ writes_of steps ++ w ∷ []
writes_of-push [] w = refl
writes_of-push (Wrote v ∷ steps) w = ap (λ (l : List Write). v ∷ l) (writes_of-push steps w)
writes_of-push (Synced ∷ steps) w = writes_of-push steps w

pub is_moment-start : (first sure bytes : List ℕ) (steps : List Step) → sure ≡ first → bytes ≡ first → steps ≡ [] → IsMoment first steps sure bytes 0
unfolding moment_of after_steps
is_moment-start first sure bytes steps s b none =
    subst (λ (l : List Step). IsMoment first l sure bytes 0) (sym none) (fresh)
  where
    fresh : IsMoment first [] sure bytes 0
    fresh = record { settled = s; reads = b; settled_size = ap length s; size = ap length b; within = omega arith; pending = refl }

module _ (first : List ℕ) (steps new_steps : List Step) (sure bytes : List ℕ) (since : ℕ) (is : IsMoment first steps sure bytes since) where
  pub is_moment-write : (place : ℕ) (piece new_bytes : List ℕ) → place + length piece ≤ length first → new_steps ≡ steps ++ write_of place piece ∷ [] → new_bytes ≡ written bytes place piece
      → IsMoment first new_steps sure new_bytes since
  is_moment-write place piece new_bytes fits more wrote =
      let w : Write = record { place = place; bytes = piece } in
      let m : moment_of first new_steps ≡ record { settled = (moment_of first steps).settled; reads = written (moment_of first steps).reads place piece; pending = (moment_of first steps).pending ++ w ∷ [] } =
      ap (moment_of first) more ∙ moment_of-write first steps place piece fits in
      record {
        settled = is.settled ∙ sym (ap (λ (n : Moment). n.settled) m);
        reads = wrote ∙ ap (λ (l : List ℕ). written l place piece) is.reads ∙ sym (ap (λ (n : Moment). n.reads) m);
        settled_size = is.settled_size;
        size = ap length wrote ∙ length-written bytes place piece (omega (arith, fits, is.size)) ∙ is.size;
        within = omega (arith, is.within, ap length more, length-append steps (write_of place piece ∷ []));
        pending = ap (λ (l : List Step). writes_of (drop since l)) more ∙ ap writes_of (drop-append-le since steps (write_of place piece ∷ []) is.within)
            ∙ writes_of-push (drop since steps) w ∙ ap (λ (l : List Write). l ++ w ∷ []) is.pending ∙ sym (ap (λ (n : Moment). n.pending) m);
      }

  pub is_moment-sync : (new_sure : List ℕ) (now : ℕ) → new_steps ≡ steps ++ Synced ∷ [] → new_sure ≡ bytes → now ≡ length new_steps → IsMoment first new_steps new_sure bytes now
  is_moment-sync new_sure now more copied end =
      let m : moment_of first new_steps ≡ record { settled = (moment_of first steps).reads; reads = (moment_of first steps).reads; pending = [] } =
      ap (moment_of first) more ∙ moment_of-sync first steps in
      record {
        settled = copied ∙ is.reads ∙ sym (ap (λ (n : Moment). n.settled) m);
        reads = is.reads ∙ sym (ap (λ (n : Moment). n.reads) m);
        settled_size = ap length copied ∙ is.size;
        size = is.size;
        within = omega (arith, end);
        pending = ap (λ (k : ℕ). writes_of (drop k new_steps)) end ∙ ap writes_of (drop-length new_steps) ∙ sym (ap (λ (n : Moment). n.pending) m);
      }

-- ---- a power loss

-- the next of the steps that may be kept
module _ (choice n : ℕ) (bytes : List ℕ) (steps : List Step) (i : ℕ) (within : i < length steps) where
  pub kept-wrote : (w : Write) → Wrote w ≡ get_or steps i (Wrote w)
      → kept choice n bytes (writes_of (drop i steps)) ≡ kept choice (n + 1) (cond (has_bit choice n) (after_write bytes w) bytes) (writes_of (drop (i + 1) steps))
  unfolding kept
  kept-wrote w is = ap (λ (l : List Step). kept choice n bytes (writes_of l)) (next (Wrote w) is)
    where
      next : (s : Step) → s ≡ get_or steps i s → drop i steps ≡ s ∷ drop (i + 1) steps
      next s at = drop_more steps i s within ∙ ap (λ (x : Step). x ∷ drop (i + 1) steps) (sym at)

  pub kept-synced : Synced ≡ get_or steps i Synced → kept choice n bytes (writes_of (drop i steps)) ≡ kept choice n bytes (writes_of (drop (i + 1) steps))
  kept-synced is = ap (λ (l : List Step). kept choice n bytes (writes_of l)) (drop_more steps i Synced within ∙ ap (λ (x : Step). x ∷ drop (i + 1) steps) (sym is))

pub kept-none : (choice n : ℕ) (bytes : List ℕ) (steps : List Step) (i : ℕ) → length steps ≤ i → kept choice n bytes (writes_of (drop i steps)) ≡ bytes
unfolding kept
kept-none choice n bytes steps i past = ap (λ (l : List Step). kept choice n bytes (writes_of l)) (drop_all i steps past)

pub lost-kept : (choice : ℕ) (first : List ℕ) (steps : List Step) (sure bytes : List ℕ) (since : ℕ) → IsMoment first steps sure bytes since
    → kept choice 0 sure (writes_of (drop since steps)) ≡ lost choice (moment_of first steps)
unfolding lost
lost-kept choice first steps sure bytes since is =
    ap (λ (l : List ℕ). kept choice 0 l (writes_of (drop since steps))) is.settled ∙ ap (kept choice 0 (moment_of first steps).settled) is.pending

after_write_outside : (bytes : List ℕ) (w : Write) → SameOn (Outside w.place (length w.bytes)) bytes (after_write bytes w)
after_write_outside bytes w = ⊎_elim
    (λ past. subst (λ (l : List ℕ). SameOn (Outside w.place (length w.bytes)) bytes l) (sym (after_write-past bytes w past)) (same_start (Outside w.place (length w.bytes)) bytes))
    (λ fits. subst (λ (l : List ℕ). SameOn (Outside w.place (length w.bytes)) bytes l) (sym (after_write-fits bytes w fits)) (written_outside bytes w.place w.bytes fits))
    (cases_lt (length bytes) (w.place + length w.bytes))

-- writes that are kept change only their ranges
kept_outside : (K : ℕ → Type 0) (choice n : ℕ) (bytes : List ℕ) (writes : List Write) → ((i : ℕ) → K i → OutsideAll writes i) → SameOn K bytes (kept choice n bytes writes)
unfolding kept
kept_outside K choice n bytes [] out = same_start K bytes
kept_outside K choice n bytes (w ∷ writes) out =
    same_then K bytes (cond (has_bit choice n) (after_write bytes w) bytes) (kept choice (n + 1) (cond (has_bit choice n) (after_write bytes w) bytes) writes)
    (one (has_bit choice n)) (kept_outside K choice (n + 1) (cond (has_bit choice n) (after_write bytes w) bytes) writes (λ i k. (out i k).1))
  where
    one : (b : Bool) → SameOn K bytes (cond b (after_write bytes w) bytes)
    one true = same_fewer K (Outside w.place (length w.bytes)) (λ i k. (out i k).0) bytes (after_write bytes w) (after_write_outside bytes w)
    one false = same_start K bytes

outside_front : (writes : List Write) (w : Write) (i : ℕ) → OutsideAll (writes ++ w ∷ []) i → OutsideAll writes i × Outside w.place (length w.bytes) i
outside_front [] w i all = (tt, all.0)
outside_front (v ∷ writes) w i all = let rest = outside_front writes w i all.1 in ((all.0, rest.0), rest.1)

-- outside the pending writes, the bytes are those of the last sync
step_settled : (m : Moment) (s : Step) → SameOn (OutsideAll m.pending) m.reads m.settled → SameOn (OutsideAll (after_step m s).pending) (after_step m s).reads (after_step m s).settled
unfolding after_step
step_settled m (Wrote w) is =
    same_then (OutsideAll (m.pending ++ w ∷ [])) (after_write m.reads w) m.reads m.settled
    (same_back (OutsideAll (m.pending ++ w ∷ [])) m.reads (after_write m.reads w) (same_fewer (OutsideAll (m.pending ++ w ∷ [])) (Outside w.place (length w.bytes)) (λ i all. (outside_front m.pending w i all).1) m.reads (after_write m.reads w) (after_write_outside m.reads w)))
    (same_fewer (OutsideAll (m.pending ++ w ∷ [])) (OutsideAll m.pending) (λ i all. (outside_front m.pending w i all).0) m.reads m.settled is)
step_settled m Synced is = same_start (OutsideAll []) m.reads

steps_settled : (m : Moment) (steps : List Step) → SameOn (OutsideAll m.pending) m.reads m.settled → SameOn (OutsideAll (after_steps m steps).pending) (after_steps m steps).reads (after_steps m steps).settled
unfolding after_steps
steps_settled m [] is = is
steps_settled m (s ∷ steps) is = steps_settled (after_step m s) steps (step_settled m s is)

-- what the choice leaves is an image of the moment, provided that it is made of bytes
pub lost_image : (choice : ℕ) (first : List ℕ) (steps : List Step) → AreBytes (lost choice (moment_of first steps)) → IsImage (moment_of first steps) (lost choice (moment_of first steps))
unfolding moment_of lost
lost_image choice first steps bytes =
    let start : Moment = record { settled = first; reads = first; pending = [] } in
    let m = after_steps start steps in
    record {
      stays = same_then (OutsideAll m.pending) m.reads m.settled (kept choice 0 m.settled m.pending) (steps_settled start steps (same_start (OutsideAll []) first))
          (kept_outside (OutsideAll m.pending) choice 0 m.settled m.pending (λ i all. all));
      bytes = λ i. inl (bytes i);
    }
