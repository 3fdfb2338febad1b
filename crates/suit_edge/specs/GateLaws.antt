-- Laws of gates: what a power loss leaves while a gate is closed, and while a page is written with its gate
-- closed.
use Rattle.std.proofs.Common.{◌≡◌, ◌≢◌, ◌⊎◌, inl, inr, ⊎_elim, ◌<◌, ◌≤◌, ℕ, ◌+◌, List, [], ◌∷◌, length, get_or, sym, ◌∙◌, ap, subst, arith}
use Rattle.std.specs.List.{slice_range}
use Rattle.std.proofs.lemmas.List.Edits.{get_or-between}
use Rattle.suit_edge.specs.declared.page.TheConstants.{OPEN, CLOSED}
use Rattle.suit_edge.specs.Ranges.{Outside, InSome, OutsideEach, SameOn, Within, written}
use Rattle.suit_edge.specs.Flash.{Flash, Now, Passes, ImageOn, Keeps, IsSame, IsSettled, IsFirmOn, IsFlash}
use Rattle.suit_edge.specs.Gate.{IsShut, Closes, IsClosing, IsNewPage, IsOldPage, IsOpening, IsGated, body_at, page_at}
use Rattle.suit_edge.specs.RangeLaws.{same_range, written_outside, written_range, written_one, same_start, same_then, same_fewer}
use Rattle.suit_edge.specs.FlashLaws.{each_now, keeps_fewer, keeps_same, joined, weakens, image_on, image_fewer, image_then}

-- a gate is in the state that was read
pub gate_read : (reads room : List ℕ) (q : ℕ) → room ≡ slice_range reads q (q + 1)
    → get_or room 0 0 ≡ get_or reads q 0
gate_read reads room q is =
    let at : q + 0 ≡ q = omega arith in
    ap (λ (l : List ℕ). get_or l 0 0) is ∙ get_or-between reads q (q + 1) 0 0 (omega arith) ∙ ap (λ (k : ℕ). get_or reads k 0) at

-- a gate that was written reads as written
pub gate_written : (old new : List ℕ) (q b : ℕ) → q + 1 ≤ length old → new ≡ written old q (b ∷ [])
    → get_or new q 0 ≡ b
gate_written old new q b fits is = ap (λ (l : List ℕ). get_or l q 0) is ∙ written_one old q b fits

-- ---- closing a gate

pub closes_open : (gate : ℕ) (old new : List ℕ) → gate + 1 ≤ length old → get_or old gate 0 ≡ OPEN
    → new ≡ written old gate (CLOSED ∷ []) → Closes gate old new
closes_open gate old new fits is_open wrote =
    let byte = gate_written old new gate CLOSED fits wrote in
    record {
      apart = subst (λ (l : List ℕ). SameOn (Outside gate 1) old l) (sym wrote) (written_outside old gate (CLOSED ∷ []) fits);
      shut = λ opened. absurd (omega (arith, byte, opened));
      closed = λ _. byte;
      stays = λ shut. absurd (shut is_open);
    }

-- while it is being closed
pub closing : (gate : ℕ) (start b : Flash) → get_or start.reads gate 0 ≡ OPEN
    → Keeps (Outside gate 1) start b → Passes start b (IsClosing gate start)
closing gate start b is_open kept = weakens start b (ImageOn (Outside gate 1) start) (IsClosing gate start) (λ image on. inr (is_open, on)) kept.images

-- if nothing is pending, a gate that reads closed is closed in each image
pub settled_shut : (gate : ℕ) (f : Flash) → IsSettled f → (get_or f.reads gate 0 ≢ OPEN)
    → IsShut gate f
settled_shut gate f settled shut image now is_open = shut (sym (ap (λ (l : List ℕ). get_or l gate 0) (settled image now)) ∙ is_open)

-- the same if nothing is pending at the gate
pub firm_shut : (gate : ℕ) (a b : Flash) (size : ℕ) → IsFlash b size → IsFirmOn (Within gate 1) a
    → IsSame a b → (get_or a.reads gate 0 ≢ OPEN) → IsShut gate b
firm_shut gate a b size law firm same shut image now is_open =
    let was = each_now a b size (Now a) law same.images image now in
    shut (sym ((firm image was).same gate (omega arith, omega arith)) ∙ is_open)

-- ---- writing a page with its gate closed

module _ (start : Flash) (size gate place : ℕ) (body : List ℕ) (law : IsFlash start size) (gate_fits : gate + 1 ≤ size) (body_fits : place + length body ≤ size) (apart : Outside place (length body) gate) where
  abbrev page : ℕ → Type 0
  page = OutsideEach (page_at gate place (length body))

  -- no place of the body is the gate
  beside : (i : ℕ) → place ≤ i → i < place + length body → Outside gate 1 i
  beside i low high = ⊎_elim (λ before. inr (later before)) (λ behind. inl (omega (arith, behind, high))) apart
    where
      later : gate < place → gate + 1 ≤ i
      later before = omega (arith, before, low)

  -- while the body is being written
  pub filling : (b : Flash) → Keeps (Outside place (length body)) start b
      → Passes start b (IsOpening gate place body start)
  filling b kept = weakens start b (ImageOn (Outside place (length body)) start) (IsOpening gate place body start) (λ image on. record {
    apart = image_fewer page (Outside place (length body)) (λ i out. out.1.0) start image on;
    opens = λ shut is_open. absurd (shut on.from on.was (sym (on.same.same gate apart) ∙ is_open));
  }) kept.images

  -- once the body is written and the gate opened, the page is new
  pub new_page : (b_reads image : List ℕ) → b_reads ≡ written start.reads place body
      → SameOn (Outside gate 1) b_reads image → IsNewPage gate place body start.reads image
  new_page b_reads image wrote same =
      let out = written_outside start.reads place body (omega (arith, law.fits)) in
      let long : length b_reads ≡ size = ap length wrote ∙ out.size ∙ law.fits in
      let range : body_at image place (length body) ≡ body_at b_reads place (length body) =
      same_range image b_reads place (place + length body) same.size (omega (arith, same.size, long)) (λ i low high. same.same i (beside i low high)) in
      record {
        bytes = range ∙ ap (λ (l : List ℕ). body_at l place (length body)) wrote ∙ written_range start.reads place body (omega (arith, law.fits));
        rest = same_then page start.reads b_reads image
            (subst (λ (l : List ℕ). SameOn page start.reads l) (sym wrote) (same_fewer page (Outside place (length body)) (λ i o. o.1.0) start.reads (written start.reads place body) out))
            (same_fewer page (Outside gate 1) (λ i o. o.0) b_reads image same);
      }

  -- while the gate is being opened
  pub opening : (b c : Flash) → IsFlash b size → Keeps (Outside place (length body)) start b
      → b.reads ≡ written start.reads place body → IsSettled b
      → Keeps (Outside gate 1) b c → Passes start c (IsOpening gate place body start)
  opening b c law_b kept wrote settled opened =
      joined start b c (IsOpening gate place body start) (filling b kept) (weakens b c (ImageOn (Outside gate 1) b) (IsOpening gate place body start) (λ image on.
      let same = subst (λ (l : List ℕ). SameOn (Outside gate 1) l image) (settled on.from on.was) on.same in
      record {
        apart = image_then page start b size law_b
            (weakens start b (ImageOn (Outside place (length body)) start) (ImageOn page start) (image_fewer page (Outside place (length body)) (λ i o. o.1.0) start) kept.images)
            image (image_fewer page (Outside gate 1) (λ i o. o.0) b image on);
        opens = λ _ _. new_page b.reads image wrote same;
      }) opened.images)

  -- the page is written and its gate is open
  pub opened_page : (b c : List ℕ) → b ≡ written start.reads place body
      → c ≡ written b gate (OPEN ∷ []) → IsNewPage gate place body start.reads c
  opened_page b c wrote opens =
      let out = written_outside start.reads place body (omega (arith, law.fits)) in
      let long : length b ≡ size = ap length wrote ∙ out.size ∙ law.fits in
      new_page b c wrote (subst (λ (l : List ℕ). SameOn (Outside gate 1) b l) (sym opens) (written_outside b gate (OPEN ∷ []) (omega (arith, long))))

  -- ---- a page that was durable

  module _ (firm : IsFirmOn (InSome (page_at gate place (length body))) start) where
    old_body : (from image : List ℕ) → Now start from → SameOn (Outside gate 1) from image
        → body_at image place (length body) ≡ body_at start.reads place (length body)
    old_body from image was same =
        let sure = firm from was in
        let long : length image ≡ length start.reads = same.size ∙ sure.size in
        same_range image start.reads place (place + length body) long (omega (arith, long, law.fits))
        (λ i low high. same.same i (beside i low high) ∙ sure.same i (inr (inl (low, high))))

    -- while its gate is being closed
    still : (image : List ℕ) → IsClosing gate start image → IsGated gate place body start image
    still image closing = ⊎_elim
        (λ now. record {
          apart = image_on page start image now;
          opens = λ is_open. inl (record {
            opened = sym ((firm image now).same gate (inl (omega arith, omega arith))) ∙ is_open;
            bytes = old_body image image now (same_start (Outside gate 1) image);
          });
        })
        (λ c. record {
          apart = image_fewer page (Outside gate 1) (λ i o. o.0) start image c.1;
          opens = λ _. inl (record { opened = c.0; bytes = old_body c.1.from image c.1.was c.1.same });
        })
        closing

    pub gated_closing : (b : Flash) → Passes start b (IsClosing gate start)
        → Passes start b (IsGated gate place body start)
    gated_closing b run = weakens start b (IsClosing gate start) (IsGated gate place body start) still run

    -- while it is being rewritten
    pub gated_opening : (b c : Flash) → IsFlash b size → Passes start b (IsClosing gate start)
        → Closes gate start.reads b.reads → IsShut gate b
        → Passes b c (IsOpening gate place body b) → Passes start c (IsGated gate place body start)
    gated_opening b c law_b run closed shut opens =
        joined start b c (IsGated gate place body start) (gated_closing b run) (weakens b c (IsOpening gate place body b) (IsGated gate place body start) (λ image o. record {
          apart = image_then page start b size law_b (weakens start b (IsClosing gate start) (ImageOn page start) (λ i g. (still i g).apart) run) image o.apart;
          opens = λ is_open. inr (later_page b image closed (o.opens shut is_open));
        }) opens)
      where
        later_page : (b : Flash) (image : List ℕ) → Closes gate start.reads b.reads
            → IsNewPage gate place body b.reads image → IsNewPage gate place body start.reads image
        later_page b image closed new = record {
          bytes = new.bytes;
          rest = same_then page start.reads b.reads image (same_fewer page (Outside gate 1) (λ i o. o.0) start.reads b.reads closed.apart) new.rest;
        }

    -- while its gate is being read
    pub gated_look : (b : Flash) → IsSame start b → Passes start b (IsGated gate place body start)
    gated_look b same = gated_closing b (weakens start b (Now start) (IsClosing gate start) (λ image now. inl now) same.images)

    -- while it is being written after its gate was read
    pub gated_since : (b c : Flash) → IsFlash b size → IsSame start b
        → Passes b c (IsGated gate place body b) → Passes start c (IsGated gate place body start)
    gated_since b c law_b same run =
        joined start b c (IsGated gate place body start) (gated_look b same) (weakens b c (IsGated gate place body b) (IsGated gate place body start) (λ image o. record {
          apart = image_then page start b size law_b (keeps_same page start b same).images image o.apart;
          opens = λ is_open. subst (λ (l : List ℕ). IsOldPage gate place (length body) l image ⊎ IsNewPage gate place body l image) same.reads (o.opens is_open);
        }) run)

-- ---- bytes that are left alone

-- a call that leaves everything but the gate alone, or everything but the body, leaves everything but the page
pub gate_fewer : (gate place : ℕ) (body : List ℕ) (a b : Flash) → Keeps (Outside gate 1) a b
    → Keeps (OutsideEach (page_at gate place (length body))) a b
gate_fewer gate place body a b kept = keeps_fewer (OutsideEach (page_at gate place (length body))) (Outside gate 1) (λ i o. o.0) a b kept

pub body_fewer : (gate place : ℕ) (body : List ℕ) (a b : Flash)
    → Keeps (Outside place (length body)) a b
    → Keeps (OutsideEach (page_at gate place (length body))) a b
body_fewer gate place body a b kept = keeps_fewer (OutsideEach (page_at gate place (length body))) (Outside place (length body)) (λ i o. o.1.0) a b kept
