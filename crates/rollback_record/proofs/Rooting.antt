-- The root of a flash that is migrated.
use Rattle.std.proofs.Common.{◌≡◌, ⊎_elim, inl, inr, zero, suc, ◌≤◌, ◌<◌, ◌+◌, ℕ, List, length, get_or, drop, Some, sym, ap, subst, ◌∙◌, length-drop, arith}
use Rattle.std.specs.List.{slice_range}
use Rattle.std.proofs.lemmas.Bool.{cases_eq}
use Rattle.std.proofs.lemmas.List.{ext_get_or, get_or-drop}
use Rattle.std.proofs.lemmas.List.Edits.{get_or-between, length-between}
use Rattle.suit_edge.specs.Flash.{Flash, IsFlash, IsSame, Now, Passes}
use Rattle.suit_edge.specs.FlashLaws.{each_now, image_on, joined, weakens}
use Rattle.suit_edge.specs.Gate.{IsNewPage, IsOpening, page_at}
use Rattle.suit_edge.specs.Ranges.{OutsideEach}
use Rattle.flash_layout.specs.declared.frame.Frame.{Frame}
use Rattle.flash_layout.specs.declared.frame.TheConstants.{ROOT_GATE}
use Rattle.flash_layout.specs.Roots.{frame_by}
use Rattle.rollback_record.specs.Moved.{IsRootShut, IsRooted, IsRooting, OutsideRoot}

-- the root and its gate are the ten bytes
pub root_fewer : (body : List ℕ) → length body + 1 ≡ 10 → (i : ℕ) → OutsideRoot i → OutsideEach (page_at ROOT_GATE (ROOT_GATE + 1) (length body)) i
root_fewer body long i out = ⊎_elim
    (λ low. (inl low, (inl (omega (arith, low)), tt)))
    (λ high. (inr (omega (arith, high)), (inr (omega (arith, high, long)), tt)))
    out

-- the bytes of the root, with its gate before them
root_whole : (image root : List ℕ) → 45066 ≤ length image → length root ≡ 10 → get_or image 45056 0 ≡ get_or root 0 0 → slice_range image 45057 (45057 + length (drop 1 root)) ≡ drop 1 root → slice_range image 45056 45066 ≡ root
root_whole image root fits long first rest =
    let size : length (slice_range image 45056 45066) ≡ 10 = length-between image 45056 45066 fits in
    ext_get_or 0 (slice_range image 45056 45066) root (size ∙ sym long) (λ i lt. get_or-between image 45056 45066 i 0 (omega (arith, lt, size)) ∙ each i (omega (arith, lt, size)))
  where
    each : (i : ℕ) → i < 10 → get_or image (45056 + i) 0 ≡ get_or root i 0
    each zero lt = first
    each (suc i) lt =
        let inside : 45057 + i < 45057 + length (drop 1 root) = omega (arith, lt, length-drop 1 root, long) in
        let at : 45057 + i ≡ 45056 + suc i = omega arith in
        let next : 1 + i ≡ suc i = omega arith in
        subst (λ (k : ℕ). get_or image k 0 ≡ get_or root (suc i) 0) at
        (sym (get_or-between image 45057 (45057 + length (drop 1 root)) i 0 inside) ∙ ap (λ (l : List ℕ). get_or l i 0) rest ∙ get_or-drop 1 root i 0 ∙ ap (λ (k : ℕ). get_or root k 0) next)

-- while all else is made sure of
pub waiting : (frame : Frame) (start b : Flash) → IsSame start b → IsRootShut start → Passes start b (IsRooting frame start)
waiting frame start b same shut = weakens start b (Now start) (IsRooting frame start) (λ image now. inl (image_on OutsideRoot start image now, shut image now)) same.images

module _ (size : ℕ) (frame : Frame) (large : 49152 ≤ size) (root body : List ℕ) (told : frame_by root ≡ Some frame) (root_long : length root ≡ 10) (root_opened : get_or root 0 0 ≡ 0xA5) (body_is : body ≡ drop 1 root) where
  pub body_short : length body + 1 ≡ 10
  body_short = omega (arith, ap length body_is, length-drop 1 root, root_long)

  pub rooted : (old image : List ℕ) → length image ≡ size → IsNewPage ROOT_GATE (ROOT_GATE + 1) body old image → get_or image 45056 0 ≡ 0xA5 → IsRooted frame old image
  rooted old image fits new opened = record {
    told = ap frame_by (root_whole image root (omega (arith, fits, large)) root_long (opened ∙ sym root_opened) (subst (λ (l : List ℕ). slice_range image 45057 (45057 + length l) ≡ l) body_is new.bytes)) ∙ told;
    rest = record { size = new.rest.size; same = λ i out. new.rest.same i (root_fewer body body_short i out) };
  }

  module _ (start b c : Flash) (law : IsFlash start size) (law_b : IsFlash b size) (same : IsSame start b) (shut : IsRootShut start) where
    shut_now : IsRootShut b
    shut_now before now = shut before (each_now start b size (Now start) law_b same.images before now)

    -- and then
    pub rooting : Passes b c (IsOpening ROOT_GATE (ROOT_GATE + 1) body b) → Passes start c (IsRooting frame start)
    rooting run = joined start b c (IsRooting frame start) (waiting frame start b same shut) (weakens b c (IsOpening ROOT_GATE (ROOT_GATE + 1) body b) (IsRooting frame start) (λ image o.
        let fits = o.apart.same.size ∙ law_b.sized b.clock o.apart.from (omega arith) o.apart.was in
        ⊎_elim
        (λ opened. inr (subst (λ (l : List ℕ). IsRooted frame l image) same.reads (rooted b.reads image fits (o.opens shut_now opened) opened)))
        (λ closed. inl (
          record {
            from = o.apart.from;
            was = each_now start b size (Now start) law_b same.images o.apart.from o.apart.was;
            same = record { size = o.apart.same.size; same = λ i out. o.apart.same.same i (root_fewer body body_short i out) };
          },
          closed,
        ))
        (cases_eq (get_or image 45056 0) 0xA5)) run)
