-- Setting the last name: from then on the block is in the image block.
use Rattle.std.proofs.Common.{◌≡◌, inl, inr, ◌<◌, ◌≤◌, ◌+◌, ◌*◌, ◌^◌, ℕ, zero, suc, List, length, Option, Some, None, refl, sym, ◌∙◌, ap, subst, arith}
use Rattle.suit_edge.specs.Flash.{Flash}
use Rattle.suit_edge.specs.Ranges.{AreBytes, SameOn, written}
use Rattle.suit_edge.specs.RangeLaws.{written_range}
use Rattle.std.specs.Int.{w64, byte_at, bytes_high_first, from_be_bytes, to_be_bytes}
use Rattle.std.specs.List.{slice_range}
use Rattle.std.proofs.lemmas.Nat.{from_be_bytes-to_be_bytes_8}
use Rattle.nor_flash.specs.declared.phase.Phase.{Phase}
use Rattle.nor_flash.specs.declared.phase.Phase.TheVariants as phases
use Rattle.nor_flash.specs.Blocks.{IsErased, OutsideBlock, cleared, front, name_in, named, plain, with_block}
use Rattle.nor_flash.specs.NorDisks.{IsCommit, IsOneOf, IsPrepared, blocks_of, seen}
use Rattle.nor_flash.proofs.BlockLemmas.{blank_none, erased_name, front_same, name_same, names_of, plain_named, plain_unnamed, three_names, with_block_same}
use Rattle.nor_flash.proofs.Calm.{Changes, calm_fits, front_stays, left_same, name_stays, shown_stays}
use Rattle.nor_flash.proofs.Filling.{cleared_erased}
use Rattle.nor_flash.proofs.Steadiness.{passes_by, plain_grows}

-- the last name is programmed, once the first two are set
module _ {size block : ℕ} {a b : Flash} (change : Changes size (blocks_of size + 3) a b) (ready : IsPrepared (blocks_of size) block a.reads) where
  abbrev m : ℕ
  m = blocks_of size

  fits : length a.reads ≡ 4096 * (m + 4)
  fits = calm_fits change.sized change.from

  unnamed : named m a.reads ≡ None
  unnamed = blank_none m change.sized.few a.reads 3 (omega arith) (omega arith) (erased_name m a.reads fits (m + 3) (omega arith) ready.third)

  -- the image shows the old block or the new one
  abbrev Either : List ℕ → Type 0
  Either = IsOneOf (front m a.reads) (with_block m block a.reads)

  shown : (d : List ℕ) → SameOn (OutsideBlock (m + 3)) a.reads d → (o : Option ℕ) → named m d ≡ o → Either (plain m d)
  shown d same None is = inl (plain_unnamed m d is ∙ front_same m a.reads fits (m + 3) d same (omega arith))
  shown d same (Some c) is =
      let names = names_of m d c is in
      let one = name_same m a.reads fits (m + 3) d same (m + 1) (λ e. absurd (omega (arith, e))) (omega arith) in
      let it : c ≡ block = sym names.first ∙ one ∙ ready.first in
      inr (plain_named m c d is ∙ with_block_same m a.reads fits (m + 3) d same c (omega arith) (λ e. absurd (omega (arith, e))) ∙ ap (λ (x : ℕ). with_block m x a.reads) it)

  by_seen : (phase : Phase) → Either (seen m phase b.reads) → IsCommit m block a phase b
  by_seen phase sees = record {
    images = passes_by m phases.GivenUp phase a b Either change.keeps.images (λ d on. shown d (left_same (OutsideBlock (m + 3)) change.from on) (named m d) refl) sees;
    grows = plain_grows m phases.GivenUp phase a b change.from change.grows (sym (plain_unnamed m a.reads unnamed));
  }

  pub committed : IsCommit m block a (phases.Rewriting block) b
  committed = by_seen (phases.Rewriting block) (shown b.reads change.keeps.reads (named m b.reads) refl)

  pub not_committed : IsCommit m block a phases.GivenUp b
  not_committed = by_seen phases.GivenUp (inl (front_stays change (omega arith)))

  -- all three names are then set to the block
  pub named_then : block < m → name_in (m + 3) b.reads ≡ block → named m b.reads ≡ Some block
  named_then within third =
      let one = name_stays change (m + 1) (λ e. absurd (omega (arith, e))) (omega arith) in
      let two = name_stays change (m + 2) (λ e. absurd (omega (arith, e))) (omega arith) in
      three_names m b.reads block (record { first = one ∙ ready.first; second = two ∙ ready.second; third = third; within = within })

  pub shown_then : block < m → name_in (m + 3) b.reads ≡ block → plain m b.reads ≡ with_block m block a.reads
  shown_then within third = plain_named m block b.reads (named_then within third) ∙ shown_stays change block (omega arith) (λ e. absurd (omega (arith, e)))

-- a name in an erased block, once it is programmed
pub programmed_name : (old new bytes : List ℕ) (j block : ℕ) → 4096 * j + 4096 ≤ length old → IsErased j old → block < 2 ^ 64 → bytes ≡ to_be_bytes w64 block → length bytes ≡ 8
    → AreBytes bytes → new ≡ cleared old (4096 * j) bytes → name_in j new ≡ block
unfolding name_in
programmed_name old new bytes j block fits erased small is long are done =
    let over : new ≡ written old (4096 * j) bytes =
    done ∙ cleared_erased old bytes (4096 * j) (omega (arith, fits, long)) (λ i lt. erased (4096 * j + i) (omega arith) (omega (arith, lt, long))) are in
    let part : slice_range new (4096 * j) (4096 * j + 8) ≡ bytes =
    subst (λ (n : ℕ). slice_range new (4096 * j) (4096 * j + n) ≡ bytes) long
    (ap (λ (l : List ℕ). slice_range l (4096 * j) (4096 * j + length bytes)) over ∙ written_range old (4096 * j) bytes (omega (arith, fits, long))) in
    ap (from_be_bytes w64) (part ∙ is) ∙ from_be_bytes-to_be_bytes_8 block small

byte_low : (k n : ℕ) → byte_at k n < 256
byte_low zero n = omega arith
byte_low (suc k) n = omega arith

pub number_bytes : (k n : ℕ) → AreBytes (bytes_high_first k n)
number_bytes zero n i = omega arith
number_bytes (suc k) n zero = byte_low k n
number_bytes (suc k) n (suc i) = number_bytes k n i
