-- Writes of a disk, and what else changes it.
use Rattle.std.proofs.Common.{◌≡◌, ⊎_elim, ◌≤◌, ◌+◌, ◌*◌, ℕ, List, length, sym, ◌∙◌, ap, subst, arith}
use Rattle.suit_edge.specs.Edge.{IfDone}
use Rattle.suit_edge.specs.EdgeLaws.{if_done_then}
use Rattle.suit_edge.specs.declared.edge.Edge.{Edge}
use Rattle.suit_edge.specs.declared.edge.Edge.TheVariants as edge
use Rattle.suit_edge.specs.Flash.{Flash, IsFlash, ImageOn}
use Rattle.suit_edge.specs.FlashLaws.{each_read, grows_then, keeps_same, keeps_then, weakens}
use Rattle.suit_edge.specs.Ranges.{Outside, SameOn, written}
use Rattle.suit_edge.specs.RangeLaws.{same_start, written_outside}
use Rattle.nor_flash.specs.declared.phase.Phase.{Phase}
use Rattle.nor_flash.specs.NorDisks.{IsOneOf, IsReplaced, IsSteady, Writes, blocks_of, nor_flash, seen}
use Rattle.nor_flash.proofs.Calm.{IsCalm, calm_disk}

-- the call failed before it wrote anything
pub nothing_written : {m : ℕ} {p q : Phase} {a b : Flash} {place : ℕ} {bytes : List ℕ} → IsSteady m p a q b → Writes edge.Failed place bytes (nor_flash m p a) (nor_flash m q b)
nothing_written {m} {p} {q} {a} {b} {place} {bytes} steady =
    record { written = tt; keeps = keeps_same (Outside place (length bytes)) (nor_flash m p a) (nor_flash m q b) steady.same; grows = steady.grows }

-- the disk stays the same, and is written then
pub then_written : {size : ℕ} {p q : Phase} {a b : Flash} {answer : Edge} {place : ℕ} {bytes : List ℕ} (new : Flash) → IsCalm size b → IsSteady (blocks_of size) p a q b
    → Writes answer place bytes (nor_flash (blocks_of size) q b) new → Writes answer place bytes (nor_flash (blocks_of size) p a) new
then_written {size} {p} {q} {a} {b} {answer} {place} {bytes} new calm steady put =
    let old : List ℕ = seen (blocks_of size) p a.reads in
    let mid : List ℕ = seen (blocks_of size) q b.reads in
    let K : ℕ → Type 0 = Outside place (length bytes) in
    let m : ℕ = blocks_of size in
    record {
      written = if_done_then answer (new.reads ≡ written mid place bytes) (new.reads ≡ written old place bytes) put.written
          (λ is. is ∙ ap (λ (l : List ℕ). written l place bytes) steady.same.reads);
      keeps = keeps_then K (nor_flash m p a) (nor_flash m q b) new (4096 * m) (calm_disk q calm) (keeps_same K (nor_flash m p a) (nor_flash m q b) steady.same) put.keeps;
      grows = grows_then (nor_flash m p a) (nor_flash m q b) new steady.same.images.later steady.grows put.grows;
    }

-- each image is the old one or has the bytes
pub replaced_written : (a b : Flash) {size place : ℕ} {bytes : List ℕ} (answer : Edge) → IsFlash a size → IsFlash b size → place + length bytes ≤ size
    → IfDone answer (b.reads ≡ written a.reads place bytes) → IsReplaced a b (written a.reads place bytes) → Writes answer place bytes a b
replaced_written a b {size} {place} {bytes} answer law_a law_b fits done put = record {
  written = done;
  keeps = record {
    reads = kept b.reads (each_read a b size (IsOneOf a.reads (written a.reads place bytes)) law_b put.images);
    images = weakens a b (IsOneOf a.reads (written a.reads place bytes)) (ImageOn (Outside place (length bytes)) a)
        (λ image one. record { from = a.reads; was = law_a.reads_may; same = kept image one }) put.images;
  };
  grows = put.grows;
}
  where
    kept : (image : List ℕ) → IsOneOf a.reads (written a.reads place bytes) image → SameOn (Outside place (length bytes)) a.reads image
    kept image one = ⊎_elim
        (λ is. subst (λ (l : List ℕ). SameOn (Outside place (length bytes)) a.reads l) (sym is) (same_start (Outside place (length bytes)) a.reads))
        (λ is. subst (λ (l : List ℕ). SameOn (Outside place (length bytes)) a.reads l) (sym is) (written_outside a.reads place bytes (omega (arith, law_a.fits, fits)))) one
