-- Laws of flashes: how the calls on a disk compose. They range over all flashes and over predicates on
-- images, which a clause of a contract cannot do.
use Rattle.std.proofs.Common.{inl, inr, ⊎_elim, ◌≤◌, ℕ, List, refl, sym, ◌∙◌, subst, arith}
use Rattle.suit_edge.specs.Ranges.{SameOn}
use Rattle.suit_edge.specs.Flash.{Flash, Now, Grows, Passes, ImageOn, Keeps, IsSame, IsSettled, IsFirmOn, IsFlash}
use Rattle.suit_edge.specs.RangeLaws.{same_start, same_then, same_fewer}

-- ---- every image since the start

-- no call at all
pub starts : (f : Flash) (P : List ℕ → Type 0) → ((image : List ℕ) → Now f image → P image)
    → Passes f f P
starts f P here = record { later = omega arith; each = here; before = λ t image le may. inl may }

-- if each image with P has Q, the same calls leave only images with Q
pub weakens : (a b : Flash) (P Q : List ℕ → Type 0) → ((image : List ℕ) → P image → Q image)
    → Passes a b P → Passes a b Q
weakens a b P Q to run = record {
  later = run.later;
  each = λ image may. to image (run.each image may);
  before = λ t image le may. ⊎_elim (λ h. inl h) (λ p. inr (to image p)) (run.before t image le may);
}

-- one run of calls after another
pub joined : (a b c : Flash) (P : List ℕ → Type 0) → Passes a b P → Passes b c P → Passes a c P
joined a b c P first second = record {
  later = omega (arith, first.later, second.later);
  each = λ image may. ⊎_elim (first.each image) (λ p. p) (second.before a.clock image first.later may);
  before = λ t image le may. ⊎_elim (first.before t image le) (λ p. inr p) (second.before t image (omega (arith, le, first.later)) may);
}

-- what a power loss leaves at the end has P
pub each_now : (a b : Flash) (size : ℕ) (P : List ℕ → Type 0) → IsFlash b size → Passes a b P
    → (image : List ℕ) → Now b image → P image
each_now a b size P law run image now = run.each image (law.sooner a.clock b.clock image run.later (omega arith) now)

-- what reads return at the end has P
pub each_read : (a b : Flash) (size : ℕ) (P : List ℕ → Type 0) → IsFlash b size → Passes a b P
    → P b.reads
each_read a b size P law run = each_now a b size P law run b.reads law.reads_may

-- a run of calls, and then a read or a sync
pub then_same : (a b c : Flash) (size : ℕ) (P : List ℕ → Type 0) → IsFlash b size → Passes a b P
    → IsSame b c → Passes a c P
then_same a b c size P law run same = joined a b c P run (weakens b c (Now b) P (each_now a b size P law run) same.images)

-- ---- places that are left alone

pub image_on : (K : ℕ → Type 0) (f : Flash) (image : List ℕ) → Now f image → ImageOn K f image
image_on K f image now = record { from = image; was = now; same = same_start K image }

pub keeps_start : (K : ℕ → Type 0) (f : Flash) → Keeps K f f
keeps_start K f = record { reads = same_start K f.reads; images = starts f (ImageOn K f) (image_on K f) }

-- an image of a later moment, as one of the start
pub image_then : (K : ℕ → Type 0) (a b : Flash) (size : ℕ) → IsFlash b size
    → Passes a b (ImageOn K a) → (image : List ℕ) → ImageOn K b image → ImageOn K a image
image_then K a b size law run image on =
    let before = each_now a b size (ImageOn K a) law run on.from on.was in
    record { from = before.from; was = before.was; same = same_then K before.from on.from image before.same on.same }

-- one run of calls after another
pub keeps_then : (K : ℕ → Type 0) (a b c : Flash) (size : ℕ) → IsFlash b size → Keeps K a b
    → Keeps K b c → Keeps K a c
keeps_then K a b c size law first second = record {
  reads = same_then K a.reads b.reads c.reads first.reads second.reads;
  images = joined a b c (ImageOn K a) first.images (weakens b c (ImageOn K b) (ImageOn K a) (image_then K a b size law first.images) second.images);
}

-- on fewer places
pub image_fewer : (K L : ℕ → Type 0) → ((i : ℕ) → K i → L i) → (f : Flash) (image : List ℕ)
    → ImageOn L f image → ImageOn K f image
image_fewer K L to f image on = record { from = on.from; was = on.was; same = same_fewer K L to on.from image on.same }

pub keeps_fewer : (K L : ℕ → Type 0) → ((i : ℕ) → K i → L i) → (a b : Flash) → Keeps L a b
    → Keeps K a b
keeps_fewer K L to a b kept = record {
  reads = same_fewer K L to a.reads b.reads kept.reads;
  images = weakens a b (ImageOn L a) (ImageOn K a) (image_fewer K L to a) kept.images;
}

-- a read or a sync leaves all places alone
pub keeps_same : (K : ℕ → Type 0) (a b : Flash) → IsSame a b → Keeps K a b
keeps_same K a b same = record {
  reads = subst (λ (l : List ℕ). SameOn K a.reads l) (sym same.reads) (same_start K a.reads);
  images = weakens a b (Now a) (ImageOn K a) (image_on K a) same.images;
}

-- ---- calls that change nothing

pub same_flash : (f : Flash) → IsSame f f
same_flash f = record { reads = refl; images = starts f (Now f) (λ image now. now) }

-- one run of calls after another
pub same_flash_then : (a b c : Flash) (size : ℕ) → IsFlash b size → IsSame a b → IsSame b c
    → IsSame a c
same_flash_then a b c size law first second = record {
  reads = second.reads ∙ first.reads;
  images = joined a b c (Now a) first.images (weakens b c (Now b) (Now a) (each_now a b size (Now a) law first.images) second.images);
}

-- ---- images that stay

pub grows_start : (f : Flash) → Grows f f
grows_start f t image le may = may

pub grows_then : (a b c : Flash) → a.clock ≤ b.clock → Grows a b → Grows b c → Grows a c
grows_then a b c later first second t image le may = second t image (omega (arith, le, later)) (first t image le may)

-- ---- places that a power loss leaves as they read

-- places that are left alone stay durable
pub firm_then : (K : ℕ → Type 0) (a b : Flash) (size : ℕ) → IsFlash b size → IsFirmOn K a
    → Keeps K a b → IsFirmOn K b
firm_then K a b size law firm kept image now =
    let on = each_now a b size (ImageOn K a) law kept.images image now in
    let from = firm on.from on.was in
    record { size = on.same.size ∙ from.size ∙ sym kept.reads.size; same = λ i k. on.same.same i k ∙ from.same i k ∙ sym (kept.reads.same i k) }

-- on fewer places
pub firm_fewer : (K L : ℕ → Type 0) → ((i : ℕ) → K i → L i) → (f : Flash) → IsFirmOn L f
    → IsFirmOn K f
firm_fewer K L to f firm image now = same_fewer K L to f.reads image (firm image now)

-- ---- nothing is pending

-- a read leaves nothing pending
pub settled_then : (a b : Flash) (size : ℕ) → IsFlash b size → IsSettled a → IsSame a b
    → IsSettled b
settled_then a b size law settled same image now = settled image (each_now a b size (Now a) law same.images image now) ∙ sym same.reads

pub settled_firm : (K : ℕ → Type 0) (f : Flash) → IsSettled f → IsFirmOn K f
settled_firm K f settled image now = subst (λ (l : List ℕ). SameOn K f.reads l) (sym (settled image now)) (same_start K f.reads)
