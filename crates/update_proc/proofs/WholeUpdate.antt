-- Each image since an update began has the old record and the old contents of slots that are not written, or the new
-- record and the contents that the procedure made.
use Rattle.std.proofs.Common.{◌≡◌, ◌⊎◌, inl, inr, ⊎_elim, ◌<◌, ◌≤◌, ℕ, zero, suc, ◌+◌, List, [], ◌∷◌, length, get_or, Option, Some, IfSome, sym, ◌∙◌, ap, subst, arith}
use Rattle.std.specs.List.{All, Contains}
use Rattle.std.proofs.lemmas.List.{get_or-map, length-map}
use Rattle.std.proofs.lemmas.List.Elements.{All-contains, Contains-append_left, Contains-append_right}
use Rattle.suit_commands.specs.Tree.{PlanTree}
use Rattle.suit_edge.specs.Flash.{Flash, ImageOn, IsFirmOn, IsFlash, Now, Passes}
use Rattle.suit_edge.specs.FlashLaws.{each_now, each_read, joined, weakens}
use Rattle.suit_edge.specs.RangeLaws.{same_range}
use Rattle.flash_layout.specs.declared.frame.Frame.{Frame}
use Rattle.flash_layout.specs.declared.key.Key.{Key}
use Rattle.flash_layout.specs.declared.layout.Entry.{Entry}
use Rattle.flash_layout.specs.declared.place.Places.{Places}
use Rattle.flash_layout.specs.declared.slot.Record.{Record}
use Rattle.flash_layout.specs.declared.slot.Slot.{Slot}
use Rattle.flash_layout.specs.Configs.{ConfigOf, Configured}
use Rattle.flash_layout.specs.FrameFacts.{FrameFacts, facts}
use Rattle.flash_layout.specs.Frames.{IsFrame, bank_size, head_of, head_size}
use Rattle.flash_layout.specs.Layouts.{IsLayout, IsTypedEntry, slot_starts}
use Rattle.flash_layout.specs.Roots.{frame_told}
use Rattle.flash_layout.specs.Slots.{extent_of, layout_slots, slot_at, slot_content, slots_of}
use Rattle.rollback_record.specs.Committing.{InHead}
use Rattle.rollback_record.specs.HeadRecord.{IsLoadable, RecordOf}
use Rattle.rollback_record.specs.SoundFlash.{Settled, Sound}
use Rattle.rollback_record.specs.SoundLaws.{SoundLaws}
use Rattle.rollback_record.proofs.HeadPlaces.{slot_outside}
use Rattle.update_proc.specs.Choices.{IsSlotOf}
use Rattle.update_proc.specs.Ends.{NowOr}
use Rattle.update_proc.specs.Installing.{Filling, IsInstalling, Recording}
use Rattle.update_proc.specs.MomentLaws.{MomentLaws}
use Rattle.update_proc.specs.Moments.{HasContentsOf, IsNew, IsOld, OutsideTouched, placed_on}
use Rattle.update_proc.proofs.Installs.{filling_still}
use Rattle.update_proc.proofs.SlotsApart.{lies, start_at, start_in}

-- ---- the slots of a layout

flat_contains : (layout : List Entry) (i : ℕ) (d : Entry) (s : Slot) → i < length layout → Contains (slots_of (get_or layout i d)) s → Contains (layout_slots layout) s
flat_contains [] i d s lt is = absurd (omega (arith, lt))
flat_contains (e ∷ layout) zero d s lt is = Contains-append_left (slots_of e) (layout_slots layout) s is
flat_contains (e ∷ layout) (suc i) d s lt is = Contains-append_right (slots_of e) (layout_slots layout) s (flat_contains layout i d s (omega (arith, lt)) is)

module _ (frame : Frame) (size : ℕ) (layout : List Entry) (allowed : IsLayout frame size layout) (typed : All IsTypedEntry layout) (d : Entry) where
  -- each is listed
  pub listed : (i n : ℕ) (s : Slot) → IsSlotOf layout i n s → Contains (layout_slots layout) s
  listed i n s is =
      let e = get_or layout i d in
      let inside : n < length (slot_starts e) = start_in frame size layout allowed typed d i n s is in
      let start : get_or (slot_starts e) n 0 ≡ get_or e.starts n 0 = start_at frame size layout allowed typed d i n s is ∙ ap (λ (x : Slot). x.start) (is.is d) in
      flat_contains layout i d s is.inside
      (n, omega (arith, inside, length-map (slot_starts e) (slot_at e)), get_or-map (slot_at e) (slot_starts e) n 0 s inside ∙ ap (slot_at e) start ∙ sym (is.is d))

  -- and none that is written stands in the head
  pub head_out : FrameFacts size frame → (places : Places) (tree : PlanTree) (numbers : List ℕ) (i : ℕ) → InHead frame i → OutsideTouched layout places tree numbers i
  head_out is places tree numbers i inside slot touched =
      slot_outside size frame is slot.start (extent_of slot) (lies frame size layout allowed typed d touched.index (get_or numbers touched.index 0) slot touched.stands) i inside

-- ---- while the procedure runs

module _ (frame : Frame) (size : ℕ) (is : IsFrame size frame) (layout : List Entry) (laws : MomentLaws frame size layout) (places : Places) (tree : PlanTree) (numbers : List ℕ) (held : Option Record) (a : Flash) (law : IsFlash a size)
    (was : RecordOf frame (head_of frame a.reads) held)
    (out_of_head : (i : ℕ) → InHead frame i → OutsideTouched layout places tree numbers i)
    (firm_head : (image : List ℕ) → Now a image → head_of frame image ≡ head_of frame a.reads)
    (firm_slots : (image : List ℕ) → Now a image → HasContentsOf layout a.reads image) where
  pub still_old : (image : List ℕ) → ImageOn (OutsideTouched layout places tree numbers) a image → IsOld (placed_on frame layout places tree) numbers held a.reads image
  still_old image on =
      let long : length on.from ≡ size = law.sized a.clock on.from (omega arith) on.was in
      let here : FrameFacts size frame = facts size frame is in
      let head : head_of frame image ≡ head_of frame on.from =
      same_range image on.from frame.base (frame.base + head_size frame) on.same.size (omega (arith, on.same.size, long, here.inside)) (λ i low high. on.same.same i (out_of_head i (inr (low, high)))) in
      record {
        record_is = subst (λ (h : List ℕ). RecordOf frame h held) (sym (head ∙ firm_head on.from on.was)) was;
        contents = λ i n slot is not. laws.procedure places tree numbers on.from image long on.same i n slot is not ∙ firm_slots on.from on.was i n slot is;
      }

  -- ---- and while its envelope is written and recorded

  module _ (b : Flash) (law_b : IsFlash b size) (run : Passes a b (ImageOn (OutsideTouched layout places tree numbers) a)) (sound_laws : SoundLaws) (new : Record) (bytes : List ℕ) (few : IfSome held (IsLoadable frame)) (fits : length bytes ≤ bank_size frame)
      (told : frame_told b.reads ≡ Some frame) (sound : Sound b.reads) (firm : IsFirmOn (InHead frame) b) where
    old_run : Passes a b (IsOld (placed_on frame layout places tree) numbers held a.reads)
    old_run = weakens a b (ImageOn (OutsideTouched layout places tree numbers) a) (IsOld (placed_on frame layout places tree) numbers held a.reads) still_old run

    pub reads_old : IsOld (placed_on frame layout places tree) numbers held a.reads b.reads
    reads_old = each_read a b size (IsOld (placed_on frame layout places tree) numbers held a.reads) law_b old_run

    -- it stays so while nothing is installed
    pub kept_old : (d : Flash) → Passes b d (Now b) → Passes a d (IsOld (placed_on frame layout places tree) numbers held a.reads)
    kept_old d still =
        joined a b d (IsOld (placed_on frame layout places tree) numbers held a.reads) old_run
        (weakens b d (Now b) (IsOld (placed_on frame layout places tree) numbers held a.reads) (each_now a b size (IsOld (placed_on frame layout places tree) numbers held a.reads) law_b old_run) still)

    installing : (image : List ℕ) → IsInstalling frame held new bytes b image → IsOld (placed_on frame layout places tree) numbers held a.reads image ⊎ IsNew frame layout new b.reads image
    installing image (Filling on) =
        let before = each_now a b size (IsOld (placed_on frame layout places tree) numbers held a.reads) law_b old_run on.from on.was in
        let long : length on.from ≡ size = law_b.sized b.clock on.from (omega arith) on.was in
        let is_b : IsFrame (length b.reads) frame = subst (λ (n : ℕ). IsFrame n frame) (sym law_b.fits) is in
        inl (record {
          record_is = (filling_still sound_laws frame held new bytes b is_b told few fits reads_old.record_is sound firm image on).held_is;
          contents = λ i n slot is not. laws.filling held bytes on.from image long fits on.same i n slot is ∙ before.contents i n slot is not;
        })
    installing image (Recording made filled is) =
        let long : length made ≡ size = filled.beside.size ∙ law_b.fits in
        let contents : HasContentsOf layout b.reads image = λ i n slot at. laws.recording held new made image long is i n slot at ∙ laws.filling held bytes b.reads made law_b.fits fits filled.beside i n slot at in
        ⊎_elim
        (λ old. inl (record { record_is = old; contents = λ i n slot at not. contents i n slot at ∙ reads_old.contents i n slot at not }))
        (λ now. inr (record { record_is = now; contents = contents }))
        is.record_is

    -- the same where what stands may be left alone instead
    moment_of : (image : List ℕ) → NowOr (IsInstalling frame held new bytes b) b image → IsOld (placed_on frame layout places tree) numbers held a.reads image ⊎ IsNew frame layout new b.reads image
    moment_of image is = ⊎_elim (λ now. inl (each_now a b size (IsOld (placed_on frame layout places tree) numbers held a.reads) law_b old_run image now)) (installing image) is

    pub finished : (d : Flash) → Passes b d (NowOr (IsInstalling frame held new bytes b) b) → Passes a d (λ image. IsOld (placed_on frame layout places tree) numbers held a.reads image ⊎ IsNew frame layout new b.reads image)
    finished d since =
        joined a b d (λ image. IsOld (placed_on frame layout places tree) numbers held a.reads image ⊎ IsNew frame layout new b.reads image)
        (weakens a b (IsOld (placed_on frame layout places tree) numbers held a.reads) (λ image. IsOld (placed_on frame layout places tree) numbers held a.reads image ⊎ IsNew frame layout new b.reads image) (λ image old. inl old) old_run)
        (weakens b d (NowOr (IsInstalling frame held new bytes b) b) (λ image. IsOld (placed_on frame layout places tree) numbers held a.reads image ⊎ IsNew frame layout new b.reads image) moment_of since)

-- ---- on a settled flash

module _ (frame : Frame) (layout : List Entry) (key : Key) (a : Flash) (settled : Settled a) (config : ConfigOf (length a.reads) a.reads (Configured layout key frame)) where
  pub settled_head : (image : List ℕ) → Now a image → head_of frame image ≡ head_of frame a.reads
  settled_head image now = (settled.sure image now).head.head frame config.told

  pub settled_slots : ((i n : ℕ) (s : Slot) → IsSlotOf layout i n s → Contains (layout_slots layout) s) → (image : List ℕ) → Now a image → HasContentsOf layout a.reads image
  settled_slots listed image now i n slot is =
      All-contains (λ s. slot_content s image ≡ slot_content s a.reads) (layout_slots layout) slot ((settled.sure image now).slots layout key frame config) (listed i n slot is)
