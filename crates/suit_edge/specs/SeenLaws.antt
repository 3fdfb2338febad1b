-- A disk over another one, or over a device. Its reads show the bytes below through a function, or give a
-- state of its own. A power loss leaves what the bytes below then show, or what reads returned.
use Rattle.std.proofs.Common.{◌≡◌, ◌⊎◌, inl, inr, ⊎_elim, ◌≤◌, ℕ, List, length, refl, sym, ◌∙◌, ap, subst, arith}
use Rattle.suit_edge.specs.Ranges.{AreBytes, SameOn}
use Rattle.suit_edge.specs.Flash.{Flash, Now, Grows, Passes, ImageOn, Keeps, IsSame, IsSettled, IsFlash}

abbrev pub seen : (List ℕ → List ℕ) → List ℕ → Flash → Flash
seen shows reads f = record {
  reads = reads;
  clock = f.clock;
  may = λ t image. ((below : List ℕ) × f.may t below × (image ≡ shows below)) ⊎ ((t ≤ f.clock) × (image ≡ reads));
}

pub seen_obeys : (shows : List ℕ → List ℕ) (reads : List ℕ) (f : Flash) (size n : ℕ)
    → ((l : List ℕ) → length l ≡ size → length (shows l) ≡ n) → length reads ≡ n
    → (AreBytes reads → (below : List ℕ) → Now f below → AreBytes (shows below)) → IsFlash f size → IsFlash (seen shows reads f) n
seen_obeys shows reads f size n long fits bytes law = record {
  fits = fits;
  sized = λ t image le may. ⊎_elim (λ m. ap length m.2 ∙ long m.0 (law.sized t m.0 le m.1)) (λ m. ap length m.1 ∙ fits) may;
  reads_may = inr (omega arith, refl);
  bytes = λ read image now. ⊎_elim (λ m. subst AreBytes (sym m.2) (bytes read m.0 m.1)) (λ m. subst AreBytes (sym m.1) read) now;
  sooner = λ t u image le high may. ⊎_elim (λ m. inl (m.0, law.sooner t u m.0 le high m.1, m.2)) (λ m. inr (omega (arith, le, high), m.1)) may;
}

module _ (shows : List ℕ → List ℕ) (old new : List ℕ) (a b : Flash) where
  -- The images of a moment remain possible if the disk still reads the same, or if the one below has shown
  -- what it read since then.
  pub seen_grows : (size : ℕ) → IsFlash b size → a.clock ≤ b.clock → Grows a b
      → (old ≡ new) ⊎ ((below : List ℕ) × b.may a.clock below × (old ≡ shows below))
      → Grows (seen shows old a) (seen shows new b)
  seen_grows size law later grows stays t image le may = ⊎_elim
      (λ m. inl (m.0, grows t m.0 le m.1, m.2))
      (λ m. ⊎_elim (λ same. inr (omega (arith, le, later), m.1 ∙ same)) (λ s. inl (s.0, law.sooner t a.clock s.0 le later s.1, m.1 ∙ s.2)) stays)
      may

  -- any number of calls below make up one call
  pub seen_passes : (P Q : List ℕ → Type 0) → ((below : List ℕ) → P below → Q (shows below)) → Q new
      → Passes a b P → Passes (seen shows old a) (seen shows new b) Q
  seen_passes P Q to read run = record {
    later = run.later;
    each = λ image may. ⊎_elim (λ m. subst Q (sym m.2) (to m.0 (run.each m.0 m.1))) (λ m. subst Q (sym m.1) read) may;
    before = λ t image le may. ⊎_elim
        (λ m. ⊎_elim (λ was. inl (inl (m.0, was, m.2))) (λ p. inr (subst Q (sym m.2) (to m.0 p))) (run.before t m.0 le m.1))
        (λ m. inr (subst Q (sym m.1) read))
        may;
  }

  -- A call that writes below, as a read that settles does, changes nothing if each image that the writes may
  -- leave shows an image of the start.
  pub seen_steady : new ≡ old → Passes a b (λ below. Now (seen shows old a) (shows below))
      → IsSame (seen shows old a) (seen shows new b)
  seen_steady same below = record {
    reads = same;
    images = seen_passes (λ l. Now (seen shows old a) (shows l)) (Now (seen shows old a)) (λ l now. now) (inr (omega arith, same)) below;
  }

  pub seen_same : new ≡ old → IsSame a b → IsSame (seen shows old a) (seen shows new b)
  seen_same same below = record {
    reads = same;
    images = seen_passes (Now a) (Now (seen shows old a)) (λ image now. inl (image, now, refl)) (inr (omega arith, same)) below.images;
  }

  pub seen_keeps : (K : ℕ → Type 0) → SameOn K old new
      → Passes a b (λ below. ImageOn K (seen shows old a) (shows below))
      → Keeps K (seen shows old a) (seen shows new b)
  seen_keeps K same below = record {
    reads = same;
    images = seen_passes (λ l. ImageOn K (seen shows old a) (shows l)) (ImageOn K (seen shows old a)) (λ l on. on) (record { from = old; was = inr (omega arith, refl); same = same }) below;
  }

pub seen_settled : (shows : List ℕ → List ℕ) (reads : List ℕ) (f : Flash) → IsSettled f
    → reads ≡ shows f.reads → IsSettled (seen shows reads f)
seen_settled shows reads f settled is image now = ⊎_elim (λ m. m.2 ∙ ap shows (settled m.0 m.1) ∙ sym is) (λ m. m.1) now
