-- A disk in memory obeys the laws of every disk.
use Rattle.std.proofs.Common.{◌≡◌, ◌≤◌, inr, ⊎_elim, ℕ, ◌+◌, List, [], ◌∷◌, ◌++◌, Bool, true, false, cond, nat_le, length, take, drop, refl, sym, ◌∙◌, subst, arith, length-append, length-drop}
use Rattle.std.proofs.lemmas.Bool.{leb-true}
use Rattle.std.proofs.lemmas.List.{length-take-le, take_all}
use Rattle.suit_edge.specs.declared.step.Write.{Write}
use Rattle.suit_edge.specs.declared.step.Step.{Step}
use Rattle.suit_edge.specs.declared.step.Step.TheVariants.{Wrote, Synced}
use Rattle.suit_edge.specs.Ranges.{AreBytes, written}
use Rattle.suit_edge.specs.Flash.{IsFlash}
use Rattle.suit_edge.specs.Moment.{Moment, after_write, after_step, after_steps, moment_of, IsImage}
use Rattle.suit_edge.specs.MemoryDisk.{DiskState, memory_flash}

pub length-written : (old : List ℕ) (place : ℕ) (bytes : List ℕ) → place + length bytes ≤ length old
    → length (written old place bytes) ≡ length old
unfolding written
length-written old place bytes fits =
    omega (arith, length-append (take place old ++ bytes) (drop (place + length bytes) old), length-append (take place old) bytes, length-take-le place old (omega arith), length-drop (place + length bytes) old)

pub length-after_write : (bytes : List ℕ) (w : Write) → length (after_write bytes w) ≡ length bytes
unfolding after_write
length-after_write bytes w = by_test (nat_le (w.place + length w.bytes) (length bytes)) refl
  where
    by_test : (b : Bool) → nat_le (w.place + length w.bytes) (length bytes) ≡ b
        → length (cond b (written bytes w.place w.bytes) bytes) ≡ length bytes
    by_test true is = length-written bytes w.place w.bytes (leb-true _ _ is)
    by_test false is = refl

pub length-after_step : (m : Moment) (s : Step) → length (after_step m s).reads ≡ length m.reads
unfolding after_step
length-after_step m (Wrote w) = length-after_write m.reads w
length-after_step m Synced = refl

pub length-after_steps : (m : Moment) (steps : List Step)
    → length (after_steps m steps).reads ≡ length m.reads
unfolding after_steps
length-after_steps m [] = refl
length-after_steps m (s ∷ steps) = length-after_steps (after_step m s) steps ∙ length-after_step m s

pub length-moment_of : (first : List ℕ) (steps : List Step)
    → length (moment_of first steps).reads ≡ length first
unfolding moment_of
length-moment_of first steps = length-after_steps (record { settled = first; reads = first; pending = [] }) steps

-- if reads return bytes, an image of a power loss holds bytes
image_bytes : (m : Moment) (image : List ℕ) → IsImage m image → AreBytes m.reads → AreBytes image
image_bytes m image is reads i = ⊎_elim (λ lt. lt) (λ at. omega (arith, at, reads i)) (is.bytes i)

pub memory_obeys : (s : DiskState) → IsFlash (memory_flash s) (length s.first)
memory_obeys s = record {
  fits = length-moment_of s.first s.steps;
  sized = λ t image le may. may.left.stays.size ∙ length-moment_of s.first (take may.moment s.steps);
  reads_may = record {
    moment = length s.steps;
    since = omega arith;
    past = omega arith;
    left = subst (λ (l : List Step). IsImage (moment_of s.first l) (moment_of s.first s.steps).reads) (sym (take_all (length s.steps) s.steps (omega arith)))
        (record { stays = record { size = refl; same = λ i out. refl }; bytes = λ i. inr refl });
  };
  bytes = λ reads image now. image_bytes (moment_of s.first (take now.moment s.steps)) image now.left
      (subst (λ (l : List Step). AreBytes (moment_of s.first l).reads) (sym (take_all now.moment s.steps now.since)) reads);
  sooner = λ t u image le high may. record { moment = may.moment; since = omega (arith, le, may.since); past = may.past; left = may.left };
}
