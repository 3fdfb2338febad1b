-- Calls of the device, and what the disk on it makes of them.
use Rattle.std.proofs.Common.{◌≡◌, inl, inr, ⊎_elim, ◌*◌, ℕ, List, refl, sym, ◌∙◌, ap, subst, arith}
use Rattle.suit_edge.specs.Flash.{Flash, Now, IsSame, Grows, Passes}
use Rattle.suit_edge.specs.FlashLaws.{grows_start, grows_then, same_flash, same_flash_then}
use Rattle.nor_flash.specs.declared.phase.Phase.{Phase}
use Rattle.nor_flash.specs.Blocks.{OutsideBlock, plain}
use Rattle.nor_flash.specs.NorDisks.{IsQuiet, IsSteady, blocks_of, nor_flash, seen}
use Rattle.nor_flash.proofs.Calm.{Changes, IsCalm, calm_disk, left_same}

-- each image of the disk has P, if what is left of the device shows it, and if the disk reads it
pub passes_by : (m : ℕ) (p q : Phase) (a b : Flash) {Q : List ℕ → Type 0} (P : List ℕ → Type 0) → Passes a b Q → ((d : List ℕ) → Q d → P (plain m d)) → P (seen m q b.reads)
    → Passes (nor_flash m p a) (nor_flash m q b) P
passes_by m p q a b {Q} P passes shows sees =
    let left : (image d : List ℕ) → Q d → image ≡ plain m d → P image = λ image d has is. subst P (sym is) (shows d has) in
    let read : (image : List ℕ) → image ≡ seen m q b.reads → P image = λ image is. subst P (sym is) sees in
    record {
      later = passes.later;
      each = λ image may. ⊎_elim (λ h. left image h.0 (passes.each h.0 h.1) h.2) (λ h. read image h.1) may;
      before = λ t image le may. ⊎_elim
          (λ h. ⊎_elim (λ old. inl (inl (h.0, old, h.2))) (λ has. inr (left image h.0 has h.2)) (passes.before t h.0 le h.1))
          (λ h. inr (read image h.1)) may;
    }

-- images remain possible if the device showed what the disk read
pub plain_grows : (m : ℕ) (p q : Phase) (a b : Flash) {size : ℕ} → IsCalm size a → Grows a b → seen m p a.reads ≡ plain m a.reads → Grows (nor_flash m p a) (nor_flash m q b)
plain_grows m p q a b calm grown is t image le may = ⊎_elim
    (λ h. inl (h.0, grown t h.0 le h.1, h.2))
    (λ h. inl (a.reads, grown t a.reads le (calm.law.sooner t a.clock a.reads le (omega arith) calm.law.reads_may), h.1 ∙ is)) may

-- the disk is unchanged if it reads the same, and what is left of the device shows what it could show before
steady_by : (m : ℕ) (p q : Phase) (a b : Flash) {Q : List ℕ → Type 0} → Passes a b Q → Grows a b → ((d : List ℕ) → Q d → Now (nor_flash m p a) (plain m d))
    → seen m q b.reads ≡ seen m p a.reads → IsSteady m p a q b
steady_by m p q a b passes grown shows sees = record {
  same = record { reads = sees; images = passes_by m p q a b (Now (nor_flash m p a)) passes shows (inr (omega arith, sees)) };
  grows = λ t image le may. ⊎_elim
      (λ h. inl (h.0, grown t h.0 le h.1, h.2))
      (λ h. inr (omega (arith, h.0, passes.later), h.1 ∙ sym sees)) may;
}

-- a block changed that the disk does not depend on
pub quiet_step : {size block : ℕ} {a b : Flash} {m : ℕ} {phase : Phase} → Changes size block a b → IsQuiet m phase a.reads block → IsSteady m phase a phase b
quiet_step {block} {a} {b} {m} {phase} change quiet =
    steady_by m phase phase a b change.keeps.images change.grows
    (λ d on. ⊎_elim (λ sees. inr (omega arith, sees)) (λ shown. inl (a.reads, change.from.law.reads_may, shown)) (quiet d (left_same (OutsideBlock block) change.from on)).shows)
    (quiet b.reads change.keeps.reads).sees

-- the device was only read
pub read_step : (m : ℕ) (phase : Phase) {a b : Flash} → IsSame a b → Grows a b → IsSteady m phase a phase b
read_step m phase {a} {b} same grown = steady_by m phase phase a b same.images grown (λ d now. inl (d, now, refl)) (ap (seen m phase) same.reads)

-- the phase changes, and the disk reads the same
pub phase_step : (m : ℕ) (before phase : Phase) (a : Flash) → seen m phase a.reads ≡ seen m before a.reads → IsSteady m before a phase a
phase_step m before phase a sees = steady_by m before phase a a (same_flash a).images (grows_start a) (λ d now. inl (d, now, refl)) sees

-- one call after another
pub steady_then : {size : ℕ} {p q r : Phase} {a b c : Flash} → IsCalm size b → IsSteady (blocks_of size) p a q b → IsSteady (blocks_of size) q b r c
    → IsSteady (blocks_of size) p a r c
steady_then {size} {p} {q} {r} {a} {b} {c} calm first second =
    let m : ℕ = blocks_of size in
    record {
      same = same_flash_then (nor_flash m p a) (nor_flash m q b) (nor_flash m r c) (4096 * m) (calm_disk q calm) first.same second.same;
      grows = grows_then (nor_flash m p a) (nor_flash m q b) (nor_flash m r c) first.same.images.later first.grows second.grows;
    }

-- the phase changes after a call
pub then_turned : {size : ℕ} {p q : Phase} {a b : Flash} (r : Phase) → IsCalm size b → IsSteady (blocks_of size) p a q b
    → seen (blocks_of size) r b.reads ≡ seen (blocks_of size) q b.reads → IsSteady (blocks_of size) p a r b
then_turned {size} {q = q} {b = b} r calm first sees = steady_then calm first (phase_step (blocks_of size) q r b sees)
