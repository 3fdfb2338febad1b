-- A copy, and recording the progress after it.
use Rattle.std.proofs.Common.{◌≡◌, inl, inr, ⊎_elim, ◌⊎◌, ◌<◌, ◌≤◌, ℕ, ◌+◌, ◌%◌, ◌^◌, ◌==◌, max, false, List, ◌++◌, length, get_or, refl, sym, ◌∙◌, ap, subst, arith}
use Rattle.std.specs.Int.{w64, from_be_bytes, to_be_bytes}
use Rattle.std.specs.List.{slice_range}
use Rattle.std.proofs.lemmas.Nat.{from_be_bytes-to_be_bytes_8}
use Rattle.std.proofs.lemmas.Bool.{cases_Bool, eqb-true}
use Rattle.suit_edge.specs.declared.page.TheConstants.{OPEN}
use Rattle.suit_edge.specs.Ranges.{OutsideEach, SameOn}
use Rattle.suit_edge.specs.OutsideLaws.{outside_first, outside_second}
use Rattle.suit_edge.specs.RangeLaws.{same_range}
use Rattle.std.proofs.Math.Nat.{mul-div-le}
use Rattle.suit_edge.specs.Flash.{Flash, Now, IsSame, Passes, ImageOn, Keeps, IsSettled, IsFlash}
use Rattle.suit_edge.specs.FlashLaws.{each_read, weakens, joined, keeps_fewer, keeps_then}
use Rattle.suit_edge.specs.Gate.{IsOpen, IsGated, IsNewPage, page_at}
use Rattle.swap_journal.specs.declared.contents.Exchange.{Exchange}
use Rattle.swap_journal.specs.declared.progress.Entry.{Entry}
use Rattle.swap_journal.specs.declared.progress.Entry.TheVariants.{First, Second}
use Rattle.swap_journal.specs.Exchanges.{FitsDisk, RecoversSame, areas, copies, longest}
use Rattle.swap_journal.specs.Progress.{GivesProgress, IsPageApart, RecoversNow, Stands, StillRecovers, entries, entry_gate, number_at, other_entry, progress_at}
use Rattle.swap_journal.proofs.Copies.{all, whole, short_rest}

-- ---- images that have both

pub both_pass : (a b : Flash) (P Q : List ℕ → Type 0) → Passes a b P → Passes a b Q → Passes a b (λ image. P image × Q image)
both_pass a b P Q p q = record {
  later = p.later;
  each = λ image may. (p.each image may, q.each image may);
  before = λ t image le may. ⊎_elim (λ was. inl was) (λ has. ⊎_elim (λ was. inl was) (λ more. inr (has, more)) (q.before t image le may)) (p.before t image le may);
}

-- if nothing is pending at the start, places that are left alone read as before
pub settled_on : (K : ℕ → Type 0) (a : Flash) (image : List ℕ) → IsSettled a → ImageOn K a image → SameOn K a.reads image
settled_on K a image settled on = subst (λ (l : List ℕ). SameOn K l image) (settled on.from on.was) on.same

-- ---- numbers of entries

pub number_same : (K : ℕ → Type 0) (old image : List ℕ) (gate : ℕ) → SameOn K old image → gate + 9 ≤ length old → ((i : ℕ) → gate ≤ i → i < gate + 9 → K i)
    → number_at image gate ≡ number_at old gate
number_same K old image gate same fits at =
    let first : get_or image gate 0 ≡ get_or old gate 0 = same.same gate (at gate (omega arith) (omega arith)) in
    let rest : slice_range image (gate + 1) (gate + 9) ≡ slice_range old (gate + 1) (gate + 9) =
    same_range image old (gate + 1) (gate + 9) same.size (omega (arith, same.size)) (λ i low high. same.same i (at i (omega arith) high)) in
    rw (first, rest) refl

-- ---- contents of the areas

pub same_areas : (x : Exchange) (k : ℕ) (K : ℕ → Type 0) (old image : List ℕ) → SameOn K old image
    → ((i : ℕ) → i < longest x → K (x.first + i)) → ((i : ℕ) → i < longest x → K (x.second + i)) → ((i : ℕ) → i < 4096 → K (x.scratch + i)) → RecoversSame x k old k image
same_areas x k K old image same at_first at_second at_scratch = whole x k k old image (record {
  first = λ i lt.
      let one : get_or image (x.first + i) 0 ≡ get_or old (x.first + i) 0 = same.same (x.first + i) (at_first i lt) in
      let two : get_or image (x.second + i) 0 ≡ get_or old (x.second + i) 0 = same.same (x.second + i) (at_second i lt) in
      rw (one, two) refl;
  second = λ i lt.
      let one : get_or image (x.first + i) 0 ≡ get_or old (x.first + i) 0 = same.same (x.first + i) (at_first i lt) in
      let two : get_or image (x.second + i) 0 ≡ get_or old (x.second + i) 0 = same.same (x.second + i) (at_second i lt) in
      let held : get_or image (x.scratch + i % 4096) 0 ≡ get_or old (x.scratch + i % 4096) 0 = same.same (x.scratch + i % 4096) (at_scratch (i % 4096) (short_rest i)) in
      rw (one, two, held) refl;
})

recovers_then : (x : Exchange) (k l m : ℕ) (a b c : List ℕ) → RecoversSame x k a l b → RecoversSame x l b m c → RecoversSame x k a m c
recovers_then x k l m a b c first second = record { first = second.first ∙ first.first; second = second.second ∙ first.second }

-- ---- the page is outside the areas

on_page : (x : Exchange) (page : ℕ) → IsPageApart x page → (i : ℕ) → page + 64 ≤ i → i < page + 89 → OutsideEach (areas x) i
on_page x page apart i low high = (
  ⊎_elim (λ h. inr (omega (arith, h, low))) (λ h. inl (omega (arith, h, high))) apart.first,
  (
    ⊎_elim (λ h. inr (omega (arith, h, low))) (λ h. inl (omega (arith, h, high))) apart.second,
    (⊎_elim (λ h. inr (omega (arith, h, low))) (λ h. inl (omega (arith, h, high))) apart.scratch, tt),
  ),
)

progress_same : (x : Exchange) (page : ℕ) (old image : List ℕ) → IsPageApart x page → page + 89 ≤ length old → SameOn (OutsideEach (areas x)) old image → progress_at image page ≡ progress_at old page
progress_same x page old image apart fits same =
    let first : number_at image (page + 64) ≡ number_at old (page + 64) = number_same (OutsideEach (areas x)) old image (page + 64) same (omega arith) (λ i low high. on_page x page apart i low (omega (arith, high))) in
    let second : number_at image (page + 80) ≡ number_at old (page + 80) = number_same (OutsideEach (areas x)) old image (page + 80) same (omega arith) (λ i low high. on_page x page apart i (omega (arith, low)) (omega (arith, high))) in
    rw (first, second) refl

-- the progress that the entry other than the spare one gives
pub progress_given : (image : List ℕ) (page : ℕ) (spare : Entry) (k : ℕ) → GivesProgress image page spare k → progress_at image page ≡ k
progress_given image page First k gives = omega (arith, gives.number, gives.lower)
progress_given image page Second k gives = omega (arith, gives.number, gives.lower)

-- the progress is the higher of both numbers
progress_of : (image : List ℕ) (page : ℕ) (spare : Entry) → progress_at image page ≡ max (number_at image (entry_gate page (other_entry spare))) (number_at image (entry_gate page spare))
progress_of image page First = omega arith
progress_of image page Second = omega arith

-- ---- while the copy is made

by_progress : (x : Exchange) (k l p q : ℕ) (old image : List ℕ) → k ≡ p → l ≡ q → RecoversSame x k old l image → RecoversSame x p old q image
by_progress x k l p q old image e f same = subst (λ (j : ℕ). RecoversSame x p old j image) f (subst (λ (j : ℕ). RecoversSame x j old l image) e same)

module _ (x : Exchange) (page : ℕ) (spare : Entry) (k : ℕ) (a : Flash) (size : ℕ) (law : IsFlash a size) (apart : IsPageApart x page) (fits : page + 89 ≤ size) (settled : IsSettled a) (gives : GivesProgress a.reads page spare k) where
  copying_image : (image : List ℕ) → RecoversSame x k a.reads k image × ImageOn (OutsideEach (areas x)) a image → RecoversNow x page a.reads image
  copying_image image has =
      let same = settled_on (OutsideEach (areas x)) a image settled has.1 in
      let start : progress_at a.reads page ≡ k = progress_given a.reads page spare k gives in
      let now : progress_at image page ≡ progress_at a.reads page = progress_same x page a.reads image apart (omega (arith, law.fits)) same in
      by_progress x k k (progress_at a.reads page) (progress_at image page) a.reads image (sym start) (sym (now ∙ start)) has.0

  pub copying : (b : Flash) → Passes a b (RecoversSame x k a.reads k) → Keeps (OutsideEach (areas x)) a b → Passes a b (RecoversNow x page a.reads)
  copying b same kept =
      weakens a b (λ image. RecoversSame x k a.reads k image × ImageOn (OutsideEach (areas x)) a image) (RecoversNow x page a.reads) copying_image
      (both_pass a b (RecoversSame x k a.reads k) (ImageOn (OutsideEach (areas x)) a) same kept.images)

  -- the copy leaves the progress alone
  pub still_gives : (b : Flash) → Keeps (OutsideEach (areas x)) a b → GivesProgress b.reads page spare k
  still_gives b kept = record {
    number = same_number (other_entry spare) ∙ gives.number;
    lower = omega (arith, same_number spare, gives.lower);
  }
    where
      same_number : (e : Entry) → number_at b.reads (entry_gate page e) ≡ number_at a.reads (entry_gate page e)
      same_number First = number_same (OutsideEach (areas x)) a.reads b.reads (page + 64) kept.reads (omega (arith, law.fits)) (λ i low high. on_page x page apart i low (omega (arith, high)))
      same_number Second = number_same (OutsideEach (areas x)) a.reads b.reads (page + 80) kept.reads (omega (arith, law.fits)) (λ i low high. on_page x page apart i (omega (arith, low)) (omega (arith, high)))

-- ---- while the entry is written

abbrev pub entry_page : ℕ → Entry → ℕ → ℕ → Type 0
entry_page page e n i = OutsideEach (page_at (entry_gate page e) (entry_gate page e + 1) n) i

out_of_entry : (page : ℕ) (e : Entry) (n i : ℕ) → n ≡ 8 → ((i < page + 64) ⊎ (page + 89 ≤ i)) → entry_page page e n i
out_of_entry page First n i is out = (⊎_elim (λ h. inl (omega (arith, h))) (λ h. inr (omega (arith, h))) out, (⊎_elim (λ h. inl (omega (arith, h))) (λ h. inr (omega (arith, h, is))) out, tt))
out_of_entry page Second n i is out = (⊎_elim (λ h. inl (omega (arith, h))) (λ h. inr (omega (arith, h))) out, (⊎_elim (λ h. inl (omega (arith, h))) (λ h. inr (omega (arith, h, is))) out, tt))

out_of_other : (page : ℕ) (e : Entry) (n i : ℕ) → n ≡ 8 → entry_gate page (other_entry e) ≤ i → i < entry_gate page (other_entry e) + 9 → entry_page page e n i
out_of_other page First n i is low high = (inr (omega (arith, low)), (inr (omega (arith, low, is)), tt))
out_of_other page Second n i is low high = (inl (omega (arith, high)), (inl (omega (arith, high)), tt))

open_number : (image : List ℕ) (gate : ℕ) → IsOpen image gate → number_at image gate ≡ from_be_bytes w64 (slice_range image (gate + 1) (gate + 9))
open_number image gate is_open = rw is_open refl

pub shut_number : (image : List ℕ) (gate : ℕ) → (get_or image gate 0 == OPEN) ≡ false → number_at image gate ≡ 0
shut_number image gate shut = rw shut refl

module _ (gate n : ℕ) (body : List ℕ) (is : body ≡ to_be_bytes w64 n) (small : n < 2 ^ 64) where
  pub eight : length body ≡ 8
  eight = ap length is

  whole_range : gate + 1 + length body ≡ gate + 9
  whole_range = omega (arith, eight)

  new_number : (old image : List ℕ) → IsOpen image gate → IsNewPage gate (gate + 1) body old image → number_at image gate ≡ n
  new_number old image is_open new =
      open_number image gate is_open ∙ ap (λ (to : ℕ). from_be_bytes w64 (slice_range image (gate + 1) to)) (sym whole_range)
      ∙ ap (from_be_bytes w64) (new.bytes ∙ is) ∙ from_be_bytes-to_be_bytes_8 n small

  gated_number : (k : ℕ) (b : Flash) (image : List ℕ) → number_at b.reads gate ≤ k → IsGated gate (gate + 1) body b image → (number_at image gate ≤ k) ⊎ (number_at image gate ≡ n)
  gated_number k b image low gated = ⊎_elim
      (λ is_open. let opened = eqb-true (get_or image gate 0) OPEN is_open in ⊎_elim
      (λ old. inl (omega (arith, low, old_number opened old.opened old.bytes)))
      (λ new. inr (new_number b.reads image opened new))
      (gated.opens opened))
      (λ shut. inl (omega (arith, shut_number image gate shut)))
      (cases_Bool (get_or image gate 0 == OPEN))
    where
      old_number : IsOpen image gate → IsOpen b.reads gate → slice_range image (gate + 1) (gate + 1 + length body) ≡ slice_range b.reads (gate + 1) (gate + 1 + length body)
          → number_at image gate ≡ number_at b.reads gate
      old_number opened was same =
          open_number image gate opened ∙ ap (λ (to : ℕ). from_be_bytes w64 (slice_range image (gate + 1) to)) (sym whole_range) ∙ ap (from_be_bytes w64) same
          ∙ ap (λ (to : ℕ). from_be_bytes w64 (slice_range b.reads (gate + 1) to)) whole_range ∙ sym (open_number b.reads gate was)

module _ (x : Exchange) (page : ℕ) (spare : Entry) (k : ℕ) (a b : Flash) (size : ℕ) (law_b : IsFlash b size) (apart : IsPageApart x page) (fits : page + 89 ≤ size)
    (start : progress_at a.reads page ≡ k) (settled : IsSettled b) (gives : GivesProgress b.reads page spare k)
    (before : RecoversSame x k a.reads k b.reads) (copied : RecoversSame x k a.reads (k + 1) b.reads)
    (body : List ℕ) (is : body ≡ to_be_bytes w64 (k + 1)) (small : k + 1 < 2 ^ 64) where
  abbrev gate : ℕ
  gate = entry_gate page spare

  abbrev beside : ℕ → Type 0
  beside = OutsideEach (page_at gate (gate + 1) (length body))

  other_same : (image : List ℕ) → SameOn beside b.reads image → number_at image (entry_gate page (other_entry spare)) ≡ k
  other_same image same =
      number_same beside b.reads image (entry_gate page (other_entry spare)) same (omega (arith, law_b.fits, gate_fits (other_entry spare)))
      (λ i low high. out_of_other page spare (length body) i (ap length is) low high)
      ∙ gives.number
    where
      gate_fits : (e : Entry) → entry_gate page e + 9 ≤ page + 89
      gate_fits First = omega arith
      gate_fits Second = omega arith

  areas_same : (j : ℕ) (image : List ℕ) → SameOn beside b.reads image → RecoversSame x j b.reads j image
  areas_same j image same = same_areas x j beside b.reads image same
      (λ i lt. out_of_entry page spare (length body) (x.first + i) (ap length is) (⊎_elim (λ h. inl (omega (arith, h, lt))) (λ h. inr (omega (arith, h))) apart.first))
      (λ i lt. out_of_entry page spare (length body) (x.second + i) (ap length is) (⊎_elim (λ h. inl (omega (arith, h, lt))) (λ h. inr (omega (arith, h))) apart.second))
      (λ i lt. out_of_entry page spare (length body) (x.scratch + i) (ap length is) (⊎_elim (λ h. inl (omega (arith, h, lt))) (λ h. inr (omega (arith, h))) apart.scratch))

  writing_image : (image : List ℕ) → IsGated gate (gate + 1) body b image → RecoversNow x page a.reads image
  writing_image image gated =
      let same = settled_on beside b image settled gated.apart in
      let other = other_same image same in
      let parts = progress_of image page spare in
      ⊎_elim
      (λ low. by_progress x k k (progress_at a.reads page) (progress_at image page) a.reads image (sym start) (omega (arith, parts, other, low)) (recovers_then x k k k a.reads b.reads image before (areas_same k image same)))
      (λ new. by_progress x k (k + 1) (progress_at a.reads page) (progress_at image page) a.reads image (sym start) (omega (arith, parts, other, new)) (recovers_then x k (k + 1) (k + 1) a.reads b.reads image copied (areas_same (k + 1) image same)))
      (gated_number gate (k + 1) body is small k b image gives.lower gated)

  pub writing : (c : Flash) → Passes a b (RecoversNow x page a.reads) → Passes b c (IsGated gate (gate + 1) body b) → Passes a c (RecoversNow x page a.reads)
  writing c first gated = joined a b c (RecoversNow x page a.reads) first (weakens b c (IsGated gate (gate + 1) body b) (RecoversNow x page a.reads) writing_image gated)

  pub now_gives : (reads : List ℕ) → IsOpen reads gate → IsNewPage gate (gate + 1) body b.reads reads → GivesProgress reads page (other_entry spare) (k + 1)
  now_gives reads is_open new = by_entry spare (new_number gate (k + 1) body is small b.reads reads is_open new) (other_same reads new.rest)
    where
      by_entry : (e : Entry) → number_at reads (entry_gate page e) ≡ k + 1 → number_at reads (entry_gate page (other_entry e)) ≡ k → GivesProgress reads page (other_entry e) (k + 1)
      by_entry First new_is old_is = record { number = new_is; lower = omega (arith, old_is) }
      by_entry Second new_is old_is = record { number = new_is; lower = omega (arith, old_is) }

-- ---- places that are left alone

out_of_entries : (page : ℕ) (e : Entry) (n i : ℕ) → n ≡ 8 → OutsideEach (entries page) i → entry_page page e n i
out_of_entries page First n i is out = (⊎_elim (λ h. inl h) (λ h. inr (omega (arith, h))) out.0, (⊎_elim (λ h. inl (omega (arith, h))) (λ h. inr (omega (arith, h, is))) out.0, tt))
out_of_entries page Second n i is out = (⊎_elim (λ h. inl h) (λ h. inr (omega (arith, h))) out.1.0, (⊎_elim (λ h. inl (omega (arith, h))) (λ h. inr (omega (arith, h, is))) out.1.0, tt))

pub areas_kept : (x : Exchange) (page : ℕ) (a b : Flash) → Keeps (OutsideEach (areas x)) a b → Keeps (OutsideEach (areas x ++ entries page)) a b
areas_kept x page a b kept = keeps_fewer (OutsideEach (areas x ++ entries page)) (OutsideEach (areas x)) (outside_first (areas x) (entries page)) a b kept

pub both_kept : (x : Exchange) (page : ℕ) (e : Entry) (n : ℕ) (a b c : Flash) (size : ℕ) → IsFlash b size → n ≡ 8 → Keeps (OutsideEach (areas x)) a b → Keeps (entry_page page e n) b c
    → Keeps (OutsideEach (areas x ++ entries page)) a c
both_kept x page e n a b c size law is first second =
    keeps_then (OutsideEach (areas x ++ entries page)) a b c size law (areas_kept x page a b first)
    (keeps_fewer (OutsideEach (areas x ++ entries page)) (entry_page page e n) (λ i out. out_of_entries page e n i is (outside_second (areas x) (entries page) i out)) b c second)

-- the number after a copy fits
pub next_fits : (x : Exchange) (k size : ℕ) → k < copies x → FitsDisk x size → size < 2 ^ 64 → k + 1 < 2 ^ 64
next_fits x k size lt fits small = omega (arith, lt, mul-div-le (longest x + 4095) 4096, fits.first, small)

-- ---- turn after turn

-- one more turn
pub one_turn : (x : Exchange) (page : ℕ) (a b c : Flash) (size : ℕ) → IsFlash b size → Passes a b (RecoversNow x page a.reads) → Passes b c (RecoversNow x page b.reads)
    → Passes a c (RecoversNow x page a.reads)
one_turn x page a b c size law first second =
    let here : RecoversNow x page a.reads b.reads = each_read a b size (RecoversNow x page a.reads) law first in
    joined a b c (RecoversNow x page a.reads) first (weakens b c (RecoversNow x page b.reads) (RecoversNow x page a.reads)
    (λ image now. recovers_then x (progress_at a.reads page) (progress_at b.reads page) (progress_at image page) a.reads b.reads image here now) second)

-- all copies are made
pub stands : (x : Exchange) (page : ℕ) (spare : Entry) (k : ℕ) (a b : Flash) (size : ℕ) → IsFlash b size → FitsDisk x size → copies x ≤ k → GivesProgress b.reads page spare k
    → Passes a b (RecoversNow x page a.reads) → Stands x page a.reads b.reads
stands x page spare k a b size law fits le gives run =
    let now : RecoversNow x page a.reads b.reads = each_read a b size (RecoversNow x page a.reads) law run in
    let progress : progress_at b.reads page ≡ k = progress_given b.reads page spare k gives in
    let there = all x (progress_at b.reads page) b.reads (omega (arith, le, progress)) (subst (λ (n : ℕ). FitsDisk x n) (sym law.fits) fits) in
    record { first = sym there.0 ∙ now.first; second = sym there.1 ∙ now.second }

-- ---- after calls that change nothing

pub still : (x : Exchange) (page : ℕ) (a b : Flash) → IsSame a b → Passes a b (StillRecovers x page a)
still x page a b same = weakens a b (Now a) (StillRecovers x page a) (λ image now. inl now) same.images

pub resumed : (x : Exchange) (page : ℕ) (a b c : Flash) → IsSame a b → Passes b c (RecoversNow x page b.reads) → Passes a c (StillRecovers x page a)
resumed x page a b c same run =
    joined a b c (StillRecovers x page a) (still x page a b same)
    (weakens b c (RecoversNow x page b.reads) (StillRecovers x page a) (λ image now. inr (subst (λ (l : List ℕ). RecoversNow x page l image) same.reads now)) run)
