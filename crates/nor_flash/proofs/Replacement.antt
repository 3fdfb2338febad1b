-- Replacing a block: the image block and the first two names, and the disk at the end.
use Rattle.std.proofs.Common.{◌≡◌, inl, ⊎_elim, ◌<◌, ◌≤◌, ◌+◌, ◌*◌, ℕ, List, length, refl, ◌∙◌, ap, subst, arith}
use Rattle.std.specs.List.{slice_range}
use Rattle.suit_edge.specs.Flash.{Flash, Now, Passes}
use Rattle.suit_edge.specs.FlashLaws.{grows_then, joined, then_same, weakens}
use Rattle.suit_edge.specs.Ranges.{AreBytes, written}
use Rattle.suit_edge.specs.RangeLaws.{written_range}
use Rattle.nor_flash.specs.declared.phase.Phase.{Phase}
use Rattle.nor_flash.specs.declared.phase.Phase.TheVariants as phases
use Rattle.nor_flash.specs.Blocks.{IsErased, cleared, front, image_block, plain, with_block}
use Rattle.nor_flash.specs.NorDisks.{AreErased, IsOneOf, IsReplaced, IsSteady, blocks_of, nor_flash}
use Rattle.nor_flash.proofs.Calm.{Changes, IsCalm, blank_stays, calm_disk, calm_fits}
use Rattle.nor_flash.proofs.Filling.{cleared_erased}
use Rattle.nor_flash.proofs.Fronts.{erased_unnamed}
use Rattle.nor_flash.proofs.Quiet.{image_quiet, other_name_quiet}
use Rattle.nor_flash.proofs.Steadiness.{quiet_step}

-- ---- the image block

module _ {size : ℕ} {a b : Flash} (change : Changes size (blocks_of size) a b) (erased : AreErased (blocks_of size) a.reads) where
  pub image_steady : IsSteady (blocks_of size) phases.GivenUp a phases.GivenUp b
  image_steady =
      let fits = calm_fits change.sized change.from in
      quiet_step change (image_quiet (blocks_of size) change.sized.few a.reads fits phases.GivenUp refl (erased_unnamed (blocks_of size) change.sized.few a.reads fits erased))

  pub image_erased : AreErased (blocks_of size) b.reads
  image_erased =
      let still : (j : ℕ) → 1 ≤ j → IsErased (blocks_of size + j) a.reads → IsErased (blocks_of size + j) b.reads =
      λ j some. blank_stays change (blocks_of size + j) (λ e. absurd (omega (arith, e, some))) in
      (still 1 (omega arith) erased.0, still 2 (omega arith) erased.1, still 3 (omega arith) erased.2)

pub image_stored : (m : ℕ) (old new bytes : List ℕ) → 4096 * (m + 4) ≡ length old → length bytes ≡ 4096 → AreBytes bytes → IsErased m old
    → new ≡ cleared old (4096 * m) bytes → image_block m new ≡ bytes
image_stored m old new bytes all long are erased done =
    let over : new ≡ written old (4096 * m) bytes = done ∙ cleared_erased old bytes (4096 * m) (omega (arith, all, long)) (λ i lt. erased (4096 * m + i) (omega arith) (omega (arith, lt, long))) are in
    subst (λ (n : ℕ). slice_range new (4096 * m) (4096 * m + n) ≡ bytes) long
    (ap (λ (l : List ℕ). slice_range l (4096 * m) (4096 * m + length bytes)) over ∙ written_range old (4096 * m) bytes (omega (arith, all, long)))

-- if the block were named then, the disk would have the new bytes
pub stored_shows : (m block : ℕ) (device before bytes : List ℕ) → front m device ≡ before → image_block m device ≡ bytes → with_block m block device ≡ written before (4096 * block) bytes
unfolding with_block
stored_shows m block device before bytes fronts stored =
    ap (λ (l : List ℕ). written l (4096 * block) (image_block m device)) fronts ∙ ap (written before (4096 * block)) stored

-- ---- the first two names

pub name_steady : {size : ℕ} {a b : Flash} (name : ℕ) → Changes size (blocks_of size + name) a b → 1 ≤ name → name < 3 → IsErased (blocks_of size + 3) a.reads
    → IsSteady (blocks_of size) phases.GivenUp a phases.GivenUp b
name_steady {size} {a} name change some low erased =
    quiet_step change (other_name_quiet (blocks_of size) change.sized.few a.reads (calm_fits change.sized change.from) phases.GivenUp (inl refl) 3 name
    (omega arith) (omega (arith, low)) (omega arith) some (λ e. absurd (omega (arith, e, low))) erased)

-- ---- the whole

-- the disk was settled, and is unchanged yet
module _ {size : ℕ} {q : Phase} {a b : Flash} (calm : IsCalm size a) (steady : IsSteady (blocks_of size) phases.Settled a q b) (with : List ℕ) where
  abbrev m : ℕ
  m = blocks_of size

  abbrev old : Flash
  old = nor_flash m phases.Settled a

  -- a power loss leaves what it read
  at_rest : (image : List ℕ) → Now old image → IsOneOf old.reads with image
  at_rest image now = inl (⊎_elim (λ h. h.2 ∙ ap (plain m) (calm.settled h.0 h.1)) (λ h. h.1) now)

  pub same_replaced : IsReplaced old (nor_flash m q b) with
  same_replaced = record { images = weakens old (nor_flash m q b) (Now old) (IsOneOf old.reads with) at_rest steady.same.images; grows = steady.grows }

  -- it is replaced then
  pub then_replaced : (r : Phase) (c : Flash) → IsReplaced (nor_flash m q b) (nor_flash m r c) with → IsReplaced old (nor_flash m r c) with
  then_replaced r c put = record {
    images = joined old (nor_flash m q b) (nor_flash m r c) (IsOneOf old.reads with) same_replaced.images
        (subst (λ (l : List ℕ). Passes (nor_flash m q b) (nor_flash m r c) (IsOneOf l with)) steady.same.reads put.images);
    grows = grows_then old (nor_flash m q b) (nor_flash m r c) steady.same.images.later steady.grows put.grows;
  }

-- it was replaced, and stays the same then
pub replaced_then : {size : ℕ} {q r : Phase} {b c : Flash} {with : List ℕ} (a : Flash) → IsCalm size b → IsReplaced a (nor_flash (blocks_of size) q b) with → IsSteady (blocks_of size) q b r c
    → IsReplaced a (nor_flash (blocks_of size) r c) with
replaced_then {size} {q} {r} {b} {c} {with} a calm put steady =
    let m : ℕ = blocks_of size in
    record {
      images = then_same a (nor_flash m q b) (nor_flash m r c) (4096 * m) (IsOneOf a.reads with) (calm_disk q calm) put.images steady.same;
      grows = grows_then a (nor_flash m q b) (nor_flash m r c) put.images.later put.grows steady.grows;
    }
