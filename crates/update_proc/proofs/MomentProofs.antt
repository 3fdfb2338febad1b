-- The contents of slots at each moment of an update.
use Rattle.std.proofs.Common.{◌≡◌, ⊎_elim, ◌<◌, ◌≤◌, ℕ, ◌-◌, List, length, get_or, Option, [], None, refl, sym, ◌∙◌, ap, subst, arith}
use Rattle.std.proofs.lemmas.Bool.{cases_eq}
use Rattle.std.proofs.lemmas.List.{get_or-map}
use Rattle.std.specs.List.{All}
use Rattle.suit_commands.specs.Tree.{PlanTree}
use Rattle.suit_edge.specs.Ranges.{SameOn, Within}
use Rattle.path_model.specs.DevicePlays.{Device, played}
use Rattle.flash_layout.specs.declared.frame.Frame.{Frame}
use Rattle.flash_layout.specs.declared.layout.Entry.{Entry}
use Rattle.flash_layout.specs.declared.layout.Memory.{Memory}
use Rattle.flash_layout.specs.declared.layout.Memory.TheVariants as memory
use Rattle.flash_layout.specs.declared.place.Places.{Places}
use Rattle.flash_layout.specs.declared.slot.Record.{Record}
use Rattle.flash_layout.specs.declared.slot.Slot.{Slot}
use Rattle.flash_layout.specs.FrameFacts.{FrameFacts, facts}
use Rattle.flash_layout.specs.Frames.{IsFrame, bank_size, head_size}
use Rattle.flash_layout.specs.Layouts.{AreClear, IsLayout, IsTypedEntry}
use Rattle.flash_layout.specs.Slots.{extent_of, slot_at, slot_content}
use Rattle.flash_slots.specs.RamContents.{Held, empty_ram}
use Rattle.step_machine.specs.declared.plan_end.PlanEnd.TheVariants as plays
use Rattle.step_machine.specs.declared.spot.Standing.{Standing}
use Rattle.step_machine.specs.Devices.{DeviceAt, contents_of}
use Rattle.step_machine.specs.PlanRuns.{setting_of}
use Rattle.step_machine.specs.Spots.{content_of}
use Rattle.step_machine.specs.Worlds.{spot_of, standing_of}
use Rattle.update_proc.specs.Banks.{BesideBank}
use Rattle.update_proc.specs.Choices.{AreChosen, HasOther, HaveTwoSlots, IsInUse, IsSlotOf, IsTouched, IsWritten, active_slots}
use Rattle.update_proc.specs.Installing.{BesideHead, IsRecording}
use Rattle.update_proc.specs.MomentLaws.{EachMoment}
use Rattle.update_proc.specs.Moments.{HasContentsOf, HasInUse, HasPlayed, IsNew, IsOld, KeepsContents, OutsideTouched, placed_on}
use Rattle.update_proc.specs.Updates.{PlaysUpdate, Sources}
use Rattle.update_proc.proofs.Installs.{beside_banks, beside_page}
use Rattle.update_proc.proofs.SlotsApart.{content_kept, lies, one_or_clear, outside_clear, untouched}

some_entry : Entry
some_entry = record { identifier = []; memory = memory.Ram; slots = 0; starts = []; capacity = 0; vendor = None; class = None; device = None }

-- a range that is not empty is not clear of itself
not_clear : (p m : ℕ) → 0 < m → AreClear p m p m → ⊥
not_clear p m some c = let low : p ≤ p = omega arith in let far = c.0 low in omega (arith, far, some)

not_its_other : (n : ℕ) → n ≡ 1 - n → ⊥
not_its_other n e = omega (arith, e)

module _ (frame : Frame) (size : ℕ) (layout : List Entry) (is_frame : IsFrame size frame) (allowed : IsLayout frame size layout) (typed : All IsTypedEntry layout) where
  is_here : FrameFacts size frame
  is_here = facts size frame is_frame

  -- a slot lies beside the head
  slot_beside : (i n : ℕ) (slot : Slot) → IsSlotOf layout i n slot → (k : ℕ) → Within slot.start (extent_of slot) k → BesideHead frame k
  slot_beside i n slot is k within =
      let clear = is_here.clear slot.start (extent_of slot) (lies frame size layout allowed typed some_entry i n slot is) in
      outside_clear slot.start (extent_of slot) frame.base (head_size frame) k (clear.1, clear.0) within

  procedure : (places : Places) (tree : PlanTree) (numbers before image : List ℕ) → length before ≡ size → SameOn (OutsideTouched layout places tree numbers) before image → KeepsContents layout places tree numbers before image
  procedure places tree numbers before image long same i n slot is not =
      content_kept frame size layout allowed typed some_entry i n slot is before image long same.size
      (λ k within. same.same k (λ other touched. untouched frame size layout allowed typed some_entry places tree numbers i n slot other is not touched k within))

  filling : (held : Option Record) (bytes before image : List ℕ) → length before ≡ size → length bytes ≤ bank_size frame → SameOn (BesideBank frame held bytes) before image → HasContentsOf layout before image
  filling held bytes before image long fits same i n slot is =
      content_kept frame size layout allowed typed some_entry i n slot is before image long same.size
      (λ k within. same.same k (beside_banks size frame is_here held bytes fits k (slot_beside i n slot is k within)))

  recording : (held : Option Record) (new : Record) (made image : List ℕ) → length made ≡ size → IsRecording frame held new made image → HasContentsOf layout made image
  recording held new made image long is i n slot at =
      content_kept frame size layout allowed typed some_entry i n slot at made image long is.beside.size
      (λ k within. is.beside.same k (beside_page size frame is_here is.which k is.two (slot_beside i n slot at k within)))

  -- while nothing changes but the head
  pub beside : (before image : List ℕ) → length before ≡ size → SameOn (BesideHead frame) before image → HasContentsOf layout before image
  beside before image long same i n slot is =
      content_kept frame size layout allowed typed some_entry i n slot is before image long same.size
      (λ k within. same.same k (slot_beside i n slot is k within))

  -- a slot in use is not written, where each component that is written has two
  in_use : (places : Places) (tree : PlanTree) (active numbers : List ℕ) → HaveTwoSlots layout places tree → AreChosen layout places tree active numbers → (slot : Slot) → IsInUse layout active slot → IsTouched layout places tree numbers slot → ⊥
  in_use places tree active numbers two chosen slot used touched = ⊎_elim
      (λ same. not_its_other (get_or active touched.index 0) (subst (λ (k : ℕ). get_or active k 0 ≡ get_or numbers touched.index 0) same.0 same.1 ∙ chosen.other touched.index touched.written (touched.stands.inside, λ e. two touched.index e touched.written (touched.stands.flash e))))
      (λ clear. not_clear slot.start (extent_of slot) (omega arith) clear)
      (one_or_clear frame size layout allowed typed some_entry used.index touched.index (get_or active used.index 0) (get_or numbers touched.index 0) slot slot used.stands touched.stands)

  old : (places : Places) (tree : PlanTree) (numbers : List ℕ) (held : Option Record) (first image : List ℕ) → HaveTwoSlots layout places tree → AreChosen layout places tree (active_slots held) numbers
      → IsOld (placed_on frame layout places tree) numbers held first image → HasInUse layout (active_slots held) first image
  old places tree numbers held first image two chosen is slot used =
      is.contents used.index (get_or (active_slots held) used.index 0) slot used.stands (in_use places tree (active_slots held) numbers two chosen slot used)

  new : (r : Record) (made image : List ℕ) → IsNew frame layout r made image → HasInUse layout r.active made image
  new r made image is slot used = is.contents used.index (get_or r.active used.index 0) slot used.stands

-- ---- the contents that the play made

-- one choice of slots
one_choice : (layout : List Entry) (places : Places) (tree : PlanTree) (active a b : List ℕ) → AreChosen layout places tree active a → AreChosen layout places tree active b
    → (i : ℕ) → get_or a i 0 ≡ get_or b i 0
one_choice layout places tree active a b one other i = ⊎_elim (λ same. same) (λ differs. let apart = unwritten differs in one.same i apart ∙ sym (other.same i apart)) (cases_eq (get_or a i 0) (get_or b i 0)) where
  unwritten : (get_or a i 0 ≡ get_or b i 0 → ⊥) → IsWritten tree places i × HasOther layout i → ⊥
  unwritten differs is = differs (one.other i is.0 is.1 ∙ sym (other.other i is.0 is.1))

content_there : (e : Entry) (index n : ℕ) (ram : List Held) (made : List ℕ) → e.memory ≡ memory.Flash
    → slot_content (slot_at e (get_or e.starts n 0)) made ≡ content_of (spot_of e.memory e index n) ram made
content_there e index n ram made flash =
    subst (λ (m : Memory). slot_content (slot_at e (get_or e.starts n 0)) made ≡ content_of (spot_of m e index n) ram made) (sym flash) refl

module _ (frame : Frame) (layout : List Entry) (places : Places) (tree : PlanTree) (held : Option Record) (from : Sources) (before now : DeviceAt) (image : List ℕ)
    (r : Record) (chosen : AreChosen layout places tree (active_slots held) r.active)
    (play : PlaysUpdate (placed_on frame layout places tree) held from before now plays.Done) (is : IsNew frame layout r now.reads image) where
  from_play : HasPlayed layout places r.active (played tree (setting_of play.standings from.payloads from.words play.given) (contents_of play.standings (empty_ram layout) before.reads)).world.contents image
  from_play k slot short stands =
      let index = get_or places.layout_index k 0 in
      let e = get_or layout index some_entry in
      let n = get_or play.numbers index 0 in
      let d : Standing = standing_of e k index n in
      let same : get_or r.active index 0 ≡ n = one_choice layout places tree (active_slots held) r.active play.numbers chosen play.chosen index in
      let inside : k < length play.standings = omega (arith, short, play.stand.count) in
      is.contents index (get_or r.active index 0) slot stands
      ∙ ap (λ (s : Slot). slot_content s now.reads) (stands.is some_entry)
      ∙ ap (λ (m : ℕ). slot_content (slot_at e (get_or e.starts m 0)) now.reads) same
      ∙ content_there e index n play.ram now.reads (stands.flash some_entry)
      ∙ ap (λ (s : Standing). content_of s.spot play.ram now.reads) (sym (play.stand.each k d some_entry short))
      ∙ sym (get_or-map (λ (s : Standing). content_of s.spot play.ram now.reads) play.standings k d [] inside)
      ∙ ap (λ (v : Device). get_or v.contents k []) (sym play.plays.ends.2)

pub each_moment : EachMoment
each_moment frame size layout is_frame allowed typed = record {
  procedure = procedure frame size layout is_frame allowed typed;
  filling = filling frame size layout is_frame allowed typed;
  recording = recording frame size layout is_frame allowed typed;
  old = old frame size layout is_frame allowed typed;
  new = new frame size layout is_frame allowed typed;
  played = from_play frame layout;
}
