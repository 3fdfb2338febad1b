-- Laws of a page that vouches for bytes: what a power loss leaves of both.
use Rattle.std.proofs.Common.{◌≡◌, inl, inr, ⊎_elim, ◌≤◌, ℕ, ◌+◌, List, ◌++◌, length, get_or, sym, ◌∙◌, arith}
use Rattle.suit_edge.specs.Ranges.{AreClear, Range, InSome, OutsideEach}
use Rattle.suit_edge.specs.Flash.{Flash, Passes, ImageOn, Keeps, IsFirmOn, IsFlash}
use Rattle.suit_edge.specs.Gate.{IsOldPage, IsGated, body_at, page_at}
use Rattle.suit_edge.specs.Client.{IsVouched}
use Rattle.suit_edge.specs.OutsideLaws.{outside_first, outside_second}
use Rattle.suit_edge.specs.RangeLaws.{same_range}
use Rattle.suit_edge.specs.FlashLaws.{joined, weakens, image_fewer, image_then, keeps_fewer}

module _ (start : Flash) (size : ℕ) (ranges : List Range) (gate place : ℕ) (body : List ℕ) (law : IsFlash start size) (gate_fits : gate + 1 ≤ size) (body_fits : place + length body ≤ size)
    (apart : AreClear (page_at gate place (length body)) ranges) (firm : IsFirmOn (InSome (page_at gate place (length body))) start) where
  abbrev page : List Range
  page = page_at gate place (length body)

  -- an image that agrees with the start on the page has the same body
  body_same : (image : List ℕ) → length image ≡ length start.reads
      → ((i : ℕ) → InSome page i → get_or image i 0 ≡ get_or start.reads i 0)
      → body_at image place (length body) ≡ body_at start.reads place (length body)
  body_same image long at = same_range image start.reads place (place + length body) long (omega (arith, long, law.fits)) (λ i low high. at i (inr (inl (low, high))))

  -- while the bytes are being written, the page stays
  pub writing : (b : Flash) (made : List ℕ) → Keeps (OutsideEach ranges) start b
      → Passes start b (IsVouched ranges gate place body made start)
  writing b made kept = weakens start b (ImageOn (OutsideEach ranges) start) (IsVouched ranges gate place body made start) (λ image on.
      let sure = firm on.from on.was in
      let at : (i : ℕ) → InSome page i → get_or image i 0 ≡ get_or start.reads i 0 = λ i on_page. on.same.same i (apart i on_page) ∙ sure.same i on_page in
      record {
        apart = image_fewer (OutsideEach (page ++ ranges)) (OutsideEach ranges) (outside_second page ranges) start image on;
        opens = λ is_open. inl (record {
          opened = sym (at gate (inl (omega arith, omega arith))) ∙ is_open;
          bytes = body_same image (on.same.size ∙ sure.size) at;
        });
      }) kept.images

  -- while the page is being written, the bytes stay
  pub vouching : (b c : Flash) → IsFlash b size → Keeps (OutsideEach ranges) start b
      → Passes b c (IsGated gate place body b)
      → Passes start c (IsVouched ranges gate place body b.reads start)
  vouching b c law_b kept gated =
      joined start b c (IsVouched ranges gate place body b.reads start) (writing b b.reads kept) (weakens b c (IsGated gate place body b) (IsVouched ranges gate place body b.reads start) (λ image g. record {
        apart = image_then (OutsideEach (page ++ ranges)) start b size law_b
            (keeps_fewer (OutsideEach (page ++ ranges)) (OutsideEach ranges) (outside_second page ranges) start b kept).images image
            (image_fewer (OutsideEach (page ++ ranges)) (OutsideEach page) (outside_first page ranges) b image g.apart);
        opens = λ is_open. ⊎_elim (λ old. inl (earlier b image kept old)) (λ new. inr new) (g.opens is_open);
      }) gated)
    where
      earlier : (b : Flash) (image : List ℕ) → Keeps (OutsideEach ranges) start b
          → IsOldPage gate place (length body) b.reads image
          → IsOldPage gate place (length body) start.reads image
      earlier b image kept old = record {
        opened = sym (kept.reads.same gate (apart gate (inl (omega arith, omega arith)))) ∙ old.opened;
        bytes = old.bytes ∙ body_same b.reads kept.reads.size (λ i on_page. kept.reads.same i (apart i on_page));
      }
