-- A device between two calls, and a call that changes one block of it.
use Rattle.std.proofs.Common.{◌≡◌, ◌≢◌, ◌<◌, ◌≤◌, ◌+◌, ◌*◌, ◌^◌, ℕ, List, length, sym, ◌∙◌, subst, arith}
use Rattle.suit_edge.specs.Flash.{Flash, IsFlash, IsSettled, Grows, ImageOn, Keeps}
use Rattle.suit_edge.specs.FlashLaws.{grows_then, keeps_then}
use Rattle.suit_edge.specs.Ranges.{AreBytes, SameOn}
use Rattle.nor_flash.specs.declared.phase.Phase.{Phase}
use Rattle.nor_flash.specs.Blocks.{IsErased, OutsideBlock, front, name_in, named, with_block}
use Rattle.nor_flash.specs.NorDisks.{blocks_of, nor_flash}
use Rattle.nor_flash.specs.NorLaws.{nor_obeys}
use Rattle.nor_flash.proofs.BlockLemmas.{blank_name, erased_same, front_same, name_same, named_same, with_block_same}

-- the device has whole blocks, and a blank name is no block's
pub record IsSized (size : ℕ) : Type 0 where
  pub all : 4096 * (blocks_of size + 4) ≡ size
  pub few : blocks_of size ≤ blank_name

pub sized_by : (size m : ℕ) → m ≡ blocks_of size → m + 4 < 2 ^ 52 → 4096 * (m + 4) ≡ size → IsSized size
sized_by size m is few all = record { all = omega (arith, is, all); few = omega (arith, is, few) }

-- the device is between two calls
pub record IsCalm (size : ℕ) (f : Flash) : Type 0 where
  pub law : IsFlash f size
  pub settled : IsSettled f
  pub bytes : AreBytes f.reads

pub calm_by : {extent size : ℕ} {f : Flash} → extent ≡ size → IsFlash f extent → IsSettled f → AreBytes f.reads → IsCalm size f
calm_by {f = f} is law settled bytes = record { law = subst (λ (n : ℕ). IsFlash f n) is law; settled = settled; bytes = bytes }

-- the disk on it obeys the laws
pub calm_disk : {size : ℕ} {f : Flash} (phase : Phase) → IsCalm size f → IsFlash (nor_flash (blocks_of size) phase f) (4096 * blocks_of size)
calm_disk {size} {f} phase calm = nor_obeys size phase f calm.law calm.settled calm.bytes

pub calm_fits : {size : ℕ} {f : Flash} → IsSized size → IsCalm size f → length f.reads ≡ 4096 * (blocks_of size + 4)
calm_fits sized calm = calm.law.fits ∙ sym sized.all

-- a power loss leaves the places of K as they read
pub left_same : {size : ℕ} {f : Flash} {image : List ℕ} (K : ℕ → Type 0) → IsCalm size f → ImageOn K f image → SameOn K f.reads image
left_same {image} K calm on = subst (λ (l : List ℕ). SameOn K l image) (calm.settled on.from on.was) on.same

-- nothing outside the block changes
pub record Changes (size block : ℕ) (a b : Flash) : Type 0 where
  pub sized : IsSized size
  pub from : IsCalm size a
  pub to : IsCalm size b
  pub keeps : Keeps (OutsideBlock block) a b
  pub grows : Grows a b

pub changes : {size : ℕ} {a b : Flash} (block : ℕ) → IsSized size → IsCalm size a → IsCalm size b → Keeps (OutsideBlock block) a b → Grows a b → Changes size block a b
changes block sized from to keeps grows = record { sized = sized; from = from; to = to; keeps = keeps; grows = grows }

pub changes_then : {size block : ℕ} {a b c : Flash} → Changes size block a b → Changes size block b c → Changes size block a c
changes_then {size} {block} {a} {b} {c} first second = record {
  sized = first.sized;
  from = first.from;
  to = second.to;
  keeps = keeps_then (OutsideBlock block) a b c size second.from.law first.keeps second.keeps;
  grows = grows_then a b c first.keeps.images.later first.grows second.grows;
}

module _ {size block : ℕ} {a b : Flash} (change : Changes size block a b) where
  abbrev m : ℕ
  m = blocks_of size

  fits : length a.reads ≡ 4096 * (m + 4)
  fits = calm_fits change.sized change.from

  pub name_stays : (j : ℕ) → block ≢ j → j < m + 4 → name_in j b.reads ≡ name_in j a.reads
  name_stays = name_same m a.reads fits block b.reads change.keeps.reads

  pub blank_stays : (j : ℕ) → block ≢ j → IsErased j a.reads → IsErased j b.reads
  blank_stays = erased_same m a.reads fits block b.reads change.keeps.reads

  pub front_stays : m ≤ block → front m b.reads ≡ front m a.reads
  front_stays = front_same m a.reads fits block b.reads change.keeps.reads

  pub named_stays : block ≤ m → named m b.reads ≡ named m a.reads
  named_stays = named_same m a.reads fits block b.reads change.keeps.reads

  pub shown_stays : (other : ℕ) → m ≤ block → block ≢ m → with_block m other b.reads ≡ with_block m other a.reads
  shown_stays = with_block_same m a.reads fits block b.reads change.keeps.reads
