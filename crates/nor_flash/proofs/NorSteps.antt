-- NOR flash in memory, one step later.
use Rattle.std.proofs.Common.{◌≡◌, ◌⊎◌, inl, inr, ⊎_elim, ◌<◌, ◌≤◌, ℕ, ◌+◌, ◌-◌, ◌*◌, List, [], ◌∷◌, ◌++◌, Bool, true, false, if◌then◌else◌, nat_le, length, take, drop, get_or, replicate, refl, sym, ◌∙◌, ap, subst, arith, length-append, length-drop, append-nil}
use Rattle.std.specs.List.{slice_range}
use Rattle.std.proofs.lemmas.Bool.{cases_lt, leb-true, le-leb}
use Rattle.std.proofs.lemmas.List.{length-replicate, get_or-replicate, take-append-le, take_all, drop-append-le, drop_all}
use Rattle.suit_edge.specs.declared.edge.Edge.{Edge}
use Rattle.suit_edge.specs.declared.edge.Edge.TheVariants.{Done, Failed}
use Rattle.suit_edge.specs.Edge.{IfDone}
use Rattle.suit_edge.specs.Flash.{Flash, Grows, ImageOn, Keeps}
use Rattle.suit_edge.specs.FlashLaws.{grows_start, keeps_start}
use Rattle.suit_edge.specs.Ranges.{AreBytes, Outside, SameOn, written}
use Rattle.suit_edge.specs.RangeLaws.{same_start, written_outside, written_within}
use Rattle.nor_flash.specs.declared.step.Step.{Step}
use Rattle.nor_flash.specs.declared.step.Step.TheVariants.{Erased}
use Rattle.nor_flash.specs.Blocks.{IsErased, cleared}
use Rattle.nor_flash.specs.MemoryNor.{HoldsOn, IsDevice, IsLeft, MayLeave, NorState, StepsExactly, TakesStep, after_step, after_steps, filled_by, flash_of, memory_nor, nor_reads, program_of, range_of, spoiling, with_range}
use Rattle.nor_flash.specs.MemoryNorLaws.{fits_new, length-new, length-nor_reads, nor_reads_bytes, now_reads}

-- ---- the bytes

after_steps-push : (bytes : List ℕ) (steps : List Step) (s : Step) → after_steps bytes (steps ++ s ∷ []) ≡ after_step (after_steps bytes steps) s
unfolding after_steps
after_steps-push bytes [] s = refl
after_steps-push bytes (x ∷ steps) s = after_steps-push (after_step bytes x) steps s

nor_reads-push : (blocks : ℕ) (steps : List Step) (s : Step) → nor_reads blocks (steps ++ s ∷ []) ≡ after_step (nor_reads blocks steps) s
unfolding nor_reads
nor_reads-push blocks steps s = after_steps-push (replicate (4096 * blocks) 255) steps s

after_step-fits : (bytes : List ℕ) (s : Step) → (range_of s).place + (range_of s).size ≤ length bytes → after_step bytes s ≡ with_range bytes s (range_of s)
unfolding after_step
after_step-fits bytes s fits = ap (λ (b : Bool). if b then with_range bytes s (range_of s) else bytes) (le-leb _ _ fits)

-- a step changes only its range
after_step-outside : (bytes : List ℕ) (s : Step) → SameOn (Outside (range_of s).place (range_of s).size) bytes (after_step bytes s)
unfolding after_step
after_step-outside bytes s = by_test (nat_le ((range_of s).place + (range_of s).size) (length bytes)) refl
  where
    by_test : (b : Bool) → nat_le ((range_of s).place + (range_of s).size) (length bytes) ≡ b
        → SameOn (Outside (range_of s).place (range_of s).size) bytes (if b then with_range bytes s (range_of s) else bytes)
    by_test true is =
        let fits = leb-true _ _ is in
        let old = slice_range bytes (range_of s).place ((range_of s).place + (range_of s).size) in
        subst (λ (n : ℕ). SameOn (Outside (range_of s).place n) bytes (with_range bytes s (range_of s))) (length-new bytes s fits)
        (written_outside bytes (range_of s).place (filled_by s old) (fits_new bytes s fits))
    by_test false is = same_start (Outside (range_of s).place (range_of s).size) bytes

-- writing a slice of a `Vec` back to it
put_back : (new items : List ℕ) (len : ℕ) → length new ≡ length items → len ≡ length items → take len (new ++ drop (length new) items) ≡ new
put_back new items len size full =
    let none : drop (length new) items ≡ [] = drop_all (length new) items (omega (arith, size)) in
    ap (λ (l : List ℕ). take len (new ++ l)) none ∙ ap (take len) (append-nil new) ∙ take_all len new (omega (arith, size, full))

-- ---- what a power loss leaves

-- the same after one more step
left_more : (reads : List ℕ) (later : List Step) (s : Step) (image : List ℕ) → AreBytes reads → IsLeft reads later image → IsLeft reads (later ++ s ∷ []) image
left_more reads [] s image are left =
    subst (λ (l : List ℕ). SameOn (Outside (range_of s).place (range_of s).size) reads l × AreBytes l) (sym left) (same_start (Outside (range_of s).place (range_of s).size) reads, are)
left_more reads (x ∷ later) s image are left = left

left_less : (reads : List ℕ) (later : List Step) (s : Step) (image : List ℕ) → 0 < length later → IsLeft reads (later ++ s ∷ []) image → IsLeft reads later image
left_less reads [] s image some left = absurd (omega arith)
left_less reads (x ∷ later) s image some left = left

module _ (blocks : ℕ) (steps new_steps : List Step) (s : Step) (more : new_steps ≡ steps ++ s ∷ []) where
  longer : length new_steps ≡ length steps + 1
  longer = omega (arith, ap length more, length-append steps (s ∷ []))

  front : (n : ℕ) → n ≤ length steps → take n new_steps ≡ take n steps
  front n le = ap (take n) more ∙ take-append-le n steps (s ∷ []) le

  later : (n : ℕ) → n ≤ length steps → drop n new_steps ≡ drop n steps ++ s ∷ []
  later n le = ap (drop n) more ∙ drop-append-le n steps (s ∷ []) le

  pub reads_step : nor_reads blocks new_steps ≡ after_step (nor_reads blocks steps) s
  reads_step = ap (nor_reads blocks) more ∙ nor_reads-push blocks steps s

  -- the images of a moment remain possible
  pub grows_step : Grows (flash_of blocks steps) (flash_of blocks new_steps)
  grows_step t image le may =
      let n = may.moment in
      let there = left_more (nor_reads blocks (take n steps)) (drop n steps) s image (nor_reads_bytes blocks (take n steps)) may.left in
      record {
        moment = n;
        since = may.since;
        past = omega (arith, may.past, longer);
        left = subst (λ (l : List Step). IsLeft (nor_reads blocks (take n new_steps)) l image) (sym (later n may.past))
            (subst (λ (l : List Step). IsLeft (nor_reads blocks l) (drop n steps ++ s ∷ []) image) (sym (front n may.past)) there);
      }

  abbrev OnRange : List ℕ → Type 0
  OnRange image = SameOn (Outside (range_of s).place (range_of s).size) (nor_reads blocks steps) image

  -- during the step
  at_step : (n : ℕ) (image : List ℕ) → length steps ≤ n → n ≤ length steps → IsLeft (nor_reads blocks (take n new_steps)) (drop n new_steps) image → OnRange image
  at_step n image low high left =
      let none : drop n new_steps ≡ s ∷ [] = later n high ∙ ap (λ (l : List Step). l ++ s ∷ []) (drop_all n steps low) in
      let all : take n new_steps ≡ steps = front n high ∙ take_all n steps low in
      (subst (λ (l : List Step). IsLeft (nor_reads blocks l) (s ∷ []) image) all (subst (λ (l : List Step). IsLeft (nor_reads blocks (take n new_steps)) l image) none left)).0

  -- after the step
  past_step : (n : ℕ) (image : List ℕ) → length new_steps ≤ n → IsLeft (nor_reads blocks (take n new_steps)) (drop n new_steps) image → OnRange image
  past_step n image low left =
      let is : IsLeft (nor_reads blocks (take n new_steps)) [] image = subst (λ (l : List Step). IsLeft (nor_reads blocks (take n new_steps)) l image) (drop_all n new_steps low) left in
      let same : image ≡ after_step (nor_reads blocks steps) s = is ∙ ap (nor_reads blocks) (take_all n new_steps low) ∙ reads_step in
      subst OnRange (sym same) (after_step-outside (nor_reads blocks steps) s)

  pub step_or_before : (t : ℕ) (image : List ℕ) → MayLeave blocks new_steps t image → MayLeave blocks steps t image ⊎ OnRange image
  step_or_before t image may = ⊎_elim
      (λ earlier. inl (record {
        moment = may.moment;
        since = may.since;
        past = omega (arith, earlier);
        left = left_less (nor_reads blocks (take may.moment steps)) (drop may.moment steps) s image (omega (arith, length-drop may.moment steps, earlier))
            (subst (λ (l : List Step). IsLeft (nor_reads blocks (take may.moment steps)) l image) (later may.moment (omega (arith, earlier)))
            (subst (λ (l : List Step). IsLeft (nor_reads blocks l) (drop may.moment new_steps) image) (front may.moment (omega (arith, earlier))) may.left));
      }))
      (λ from. inr (⊎_elim
      (λ at. at_step may.moment image from (omega (arith, longer, at)) may.left)
      (λ past. past_step may.moment image past may.left)
      (cases_lt may.moment (length new_steps))))
      (cases_lt may.moment (length steps))

  on_range : (image : List ℕ) → OnRange image → ImageOn (Outside (range_of s).place (range_of s).size) (flash_of blocks steps) image
  on_range image same = record {
    from = nor_reads blocks steps;
    was = now_reads (record { blocks = blocks; steps = steps; erases = 0; calls = record { fails = []; number = 0; faults = 0; starved = 0 } });
    same = same;
  }

  -- everything outside the range is left alone
  pub keeps_step : Keeps (Outside (range_of s).place (range_of s).size) (flash_of blocks steps) (flash_of blocks new_steps)
  keeps_step = record {
    reads = subst OnRange (sym reads_step) (after_step-outside (nor_reads blocks steps) s);
    images = record {
      later = omega (arith, longer);
      each = λ image may. ⊎_elim
          (λ was. record { from = image; was = was; same = same_start (Outside (range_of s).place (range_of s).size) image })
          (on_range image) (step_or_before (length steps) image may);
      before = λ t image le may. ⊎_elim (λ h. inl h) (λ h. inr (on_range image h)) (step_or_before t image may);
    };
  }

  -- ---- what the device keeps

  module _ (bytes : List ℕ) (is : IsDevice blocks steps bytes) (fits : (range_of s).place + (range_of s).size ≤ 4096 * blocks) where
    reads_filled : nor_reads blocks new_steps ≡ with_range (nor_reads blocks steps) s (range_of s)
    reads_filled = reads_step ∙ after_step-fits (nor_reads blocks steps) s (omega (arith, fits, length-nor_reads blocks steps))

    device_step : (new : List ℕ) → new ≡ with_range bytes s (range_of s) → IsDevice blocks new_steps new
    device_step new filled =
        let reads : new ≡ nor_reads blocks new_steps = filled ∙ ap (λ (l : List ℕ). with_range l s (range_of s)) is.reads ∙ sym reads_filled in
        record { five = is.five; reads = reads; size = ap length reads ∙ length-nor_reads blocks new_steps }

    -- the step was taken in a slice of them
    pub device_after : (len : ℕ) (was new : List ℕ) → len ≡ length bytes → was ≡ bytes → length new ≡ length was → new ≡ with_range was s (range_of s)
        → IsDevice blocks new_steps (take len (new ++ drop (length new) bytes))
    device_after len was new full all size filled =
        device_step (take len (new ++ drop (length new) bytes)) (put_back new bytes len (size ∙ ap length all) full ∙ filled ∙ ap (λ (l : List ℕ). with_range l s (range_of s)) all)

pub device_start : (blocks : ℕ) (steps : List Step) (bytes : List ℕ) → 5 ≤ blocks → steps ≡ [] → bytes ≡ replicate (4096 * blocks) 255 → IsDevice blocks steps bytes
unfolding nor_reads after_steps
device_start blocks steps bytes five none full = record {
  five = five;
  reads = full ∙ ap (nor_reads blocks) (sym none);
  size = ap length full ∙ length-replicate {A = ℕ} (4096 * blocks) 255;
}

pub cleared_range : (bytes : List ℕ) (place : ℕ) (piece : List ℕ) → cleared bytes place piece ≡ with_range bytes (program_of place piece) (range_of (program_of place piece))
unfolding cleared
cleared_range bytes place piece = refl

-- ---- calls on the device as a whole

-- all places of K stay, and so do earlier images
abbrev pub Spares : (ℕ → Type 0) → NorState → Flash → Type 0
Spares K before now = Keeps K (memory_nor before) now × Grows (memory_nor before) now

module _ (before now : NorState) where
  held : (K : ℕ → Type 0) → HoldsOn before now → Spares K before (memory_nor now)
  held K is =
      let same : memory_nor now ≡ memory_nor before = ap (λ (n : ℕ). flash_of n now.steps) is.blocks ∙ ap (flash_of before.blocks) is.steps in
      subst (Spares K before) (sym same) (keeps_start K (memory_nor before), grows_start (memory_nor before))

  taken : (s : Step) → TakesStep before now s → Spares (Outside (range_of s).place (range_of s).size) before (memory_nor now)
  taken s is =
      subst (Spares (Outside (range_of s).place (range_of s).size) before) (sym (ap (λ (n : ℕ). flash_of n now.steps) is.blocks))
      (keeps_step before.blocks before.steps now.steps s is.steps, grows_step before.blocks before.steps now.steps s is.steps)

  -- for either answer of a program or an erase
  module _ (s : Step) where
    pub spares_exact : (answer : Edge) → StepsExactly answer before now s → Spares (Outside (range_of s).place (range_of s).size) before (memory_nor now)
    spares_exact Done does = taken s does.1
    spares_exact Failed does = ⊎_elim (λ spoils. taken (spoiling s) spoils.1) (λ starves. held (Outside (range_of s).place (range_of s).size) starves.1) does

    -- a call that is done fills its range
    pub filled_exact : (answer : Edge) → (range_of s).place + (range_of s).size ≤ 4096 * before.blocks → StepsExactly answer before now s
        → IfDone answer ((memory_nor now).reads ≡ with_range (memory_nor before).reads s (range_of s))
    filled_exact Failed fits does = tt
    filled_exact Done fits does =
        ap (λ (n : ℕ). nor_reads n now.steps) does.1.blocks ∙ reads_step before.blocks before.steps now.steps s does.1.steps
        ∙ after_step-fits (nor_reads before.blocks before.steps) s (omega (arith, fits, length-nor_reads before.blocks before.steps))

module _ (before now : NorState) where
  pub cleared_exact : (answer : Edge) (place : ℕ) (bytes : List ℕ) → place + length bytes ≤ 4096 * before.blocks → StepsExactly answer before now (program_of place bytes)
      → IfDone answer ((memory_nor now).reads ≡ cleared (memory_nor before).reads place bytes)
  unfolding cleared
  cleared_exact answer place bytes fits does = filled_exact before now (program_of place bytes) answer fits does

  erased_done : (block : ℕ) → 4096 * block + 4096 ≤ 4096 * before.blocks → StepsExactly Done before now (Erased block) → IsErased block (memory_nor now).reads
  erased_done block fits does i low high =
      let filled = filled_exact before now (Erased block) Done fits does in
      let erased : List ℕ = replicate 4096 255 in
      let full : length erased ≡ 4096 = length-replicate {A = ℕ} 4096 255 in
      let room : 4096 * block + length erased ≤ length (memory_nor before).reads = omega (arith, full, fits, length-nor_reads before.blocks before.steps) in
      let at : 4096 * block + (i - 4096 * block) ≡ i = omega (arith, low) in
      ap (λ (l : List ℕ). get_or l i 0) filled
      ∙ subst (λ (k : ℕ). get_or (written (memory_nor before).reads (4096 * block) erased) k 0 ≡ 255) at
      (written_within (memory_nor before).reads (4096 * block) erased room (i - 4096 * block) (omega (arith, full, low, high))
      ∙ get_or-replicate 4096 (i - 4096 * block) 255 0 (omega (arith, low, high)))

  pub erased_exact : (answer : Edge) (block : ℕ) → 4096 * block + 4096 ≤ 4096 * before.blocks → StepsExactly answer before now (Erased block)
      → IfDone answer (IsErased block (memory_nor now).reads)
  erased_exact Failed block fits does = tt
  erased_exact Done block fits does = erased_done block fits does
