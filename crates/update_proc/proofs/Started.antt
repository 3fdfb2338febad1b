-- A procedure that ran on the chosen slots of a flash: what it left alone, and what comes behind it.
use Rattle.std.proofs.Common.{◌≡◌, ◌⊎◌, ⊎_elim, ◌<◌, ◌≤◌, ℕ, ◌+◌, ◌-◌, List, [], length, get_or, Option, Some, None, IfSome, refl, sym, ◌∙◌, ap, subst, arith}
use Rattle.std.specs.Prelude.{if◌then◌else◌}
use Rattle.std.specs.Str.{bytes_eq}
use Rattle.std.specs.List.{All}
use Rattle.suit_commands.specs.Tree.{PlanTree}
use Rattle.suit_commands.specs.Targets.{IsTarget}
use Rattle.suit_edge.specs.Flash.{Flash, IsFirmOn, IsFlash, Keeps, Now, Passes}
use Rattle.suit_edge.specs.FlashLaws.{each_now, each_read, firm_then, joined, keeps_fewer, weakens}
use Rattle.suit_edge.specs.Ranges.{Outside, SameOn}
use Rattle.suit_params.specs.declared.digest.Digest.{Digest}
use Rattle.flash_layout.specs.declared.frame.Frame.{Frame}
use Rattle.flash_layout.specs.declared.key.Key.{Key}
use Rattle.flash_layout.specs.declared.layout.Entry.{Entry}
use Rattle.flash_layout.specs.declared.layout.Memory.{Memory}
use Rattle.flash_layout.specs.declared.layout.Memory.TheVariants as memory
use Rattle.flash_layout.specs.declared.place.Places.{Places}
use Rattle.flash_layout.specs.declared.slot.Record.{Record}
use Rattle.flash_layout.specs.Configs.{ConfigOf, Configured}
use Rattle.flash_layout.specs.FrameFacts.{FrameFacts, facts}
use Rattle.flash_layout.specs.Frames.{IsFrame, bank_size, head_of}
use Rattle.flash_layout.specs.Roots.{frame_told}
use Rattle.flash_layout.specs.ToldFrames.{HasSameHead, back, same_config, told_there}
use Rattle.flash_layout.specs.Layouts.{IsLayout, IsTypedEntry}
use Rattle.flash_layout.specs.Slots.{extent_of, slot_at}
use Rattle.rollback_record.specs.Committing.{InHead}
use Rattle.rollback_record.specs.HeadRecord.{IsLoadable, RecordOf}
use Rattle.rollback_record.specs.RecordLaws.{OneAnswer}
use Rattle.rollback_record.proofs.SettledLaws.{head_is_firm}
use Rattle.rollback_record.specs.SoundFlash.{Follows, IsInstalled, IsNoEarlier, Settled, Sound, recorded_bank}
use Rattle.rollback_record.specs.SoundLaws.{SoundLaws}
use Rattle.step_machine.specs.declared.spot.Standing.{Standing}
use Rattle.step_machine.specs.PlanRuns.{OutsideTargets}
use Rattle.step_machine.specs.Spots.{OutsideSpot}
use Rattle.step_machine.specs.Worlds.{AreDistinct, IsChoice, StandAs, spot_of}
use Rattle.update_proc.specs.ChoiceLaws.{ChoiceLaw}
use Rattle.update_proc.specs.Choices.{AreChosen, IsTouched, active_slots}
use Rattle.update_proc.specs.Ends.{NowOr}
use Rattle.update_proc.specs.Installing.{BesideHead, HasActiveSlots, IsInstalling, MayBeInstalled}
use Rattle.update_proc.specs.MomentLaws.{EachMoment, MomentLaws}
use Rattle.update_proc.specs.Moments.{IsNew, IsOld, KeepsContents, OutsideTouched, placed_on}
use Rattle.update_proc.specs.Records.{new_record}
use Rattle.update_proc.proofs.Finished.{not_held}
use Rattle.update_proc.proofs.MomentProofs.{beside}
use Rattle.update_proc.proofs.Numbering.{other_default}
use Rattle.rollback_record.proofs.HeadSince.{follows_since, same_head, sound_since}
use Rattle.update_proc.proofs.WholeUpdate.{finished, head_out, kept_old, listed, reads_old, settled_head, settled_slots}

none : Entry
none = record { identifier = []; memory = memory.Ram; slots = 0; starts = []; capacity = 0; vendor = None; class = None; device = None }

-- ---- slots that components stand for which may be written

outside_of : (e : Entry) (m : Memory) (index number i : ℕ) → e.memory ≡ m
    → (e.memory ≡ memory.Flash → Outside (slot_at e (get_or e.starts number 0)).start (extent_of (slot_at e (get_or e.starts number 0))) i) → OutsideSpot (spot_of m e index number) i
outside_of e memory.Flash index number i is to = to is
outside_of e memory.Ram index number i is to = tt

module _ (layout : List Entry) (places : Places) (tree : PlanTree) (numbers : List ℕ) (standings : List Standing) (distinct : AreDistinct layout places)
    (choice : IsChoice layout (record { number = numbers })) (stand : StandAs layout places (record { number = numbers }) standings) where
  touched_at : (k : ℕ) → k < places.count → IsTarget tree k → (get_or layout (get_or places.layout_index k 0) none).memory ≡ memory.Flash
      → IsTouched layout places tree numbers (slot_at (get_or layout (get_or places.layout_index k 0) none) (get_or (get_or layout (get_or places.layout_index k 0) none).starts (get_or numbers (get_or places.layout_index k 0) 0) 0))
  touched_at k short target flash =
      let index = get_or places.layout_index k 0 in
      let number = get_or numbers index 0 in
      let inside : index < length layout = distinct.inside k short in
      let same : (d : Entry) → get_or layout index none ≡ get_or layout index d = λ d. other_default layout index none d inside in
      record {
        index = index;
        written = record { component = k; few = short; target = target; there = refl };
        stands = record {
          inside = inside;
          flash = λ d. subst (λ (e : Entry). e.memory ≡ memory.Flash) (same d) flash;
          number = λ d. choice.one index d inside;
          is = λ d. ap (λ (e : Entry). slot_at e (get_or e.starts number 0)) (same d);
        };
      }

  pub touched_outside : (i : ℕ) → OutsideTouched layout places tree numbers i → OutsideTargets tree standings i
  touched_outside i out k d below target =
      let short : k < places.count = omega (arith, below, stand.count) in
      let index = get_or places.layout_index k 0 in
      let e = get_or layout index none in
      let number = get_or numbers index 0 in
      subst (λ (s : Standing). OutsideSpot s.spot i) (sym (stand.each k d none short))
      (outside_of e e.memory index number i refl (λ flash. out (slot_at e (get_or e.starts number 0)) (touched_at k short target flash)))

-- ---- the record by the head

same_new : (frame : Frame) (held : Option Record) (a b bytes : List ℕ) (sequence : ℕ) (digest : Digest) (numbers : List ℕ) → head_of frame b ≡ head_of frame a
    → new_record frame held b bytes sequence digest numbers ≡ new_record frame held a bytes sequence digest numbers
same_new frame None a b bytes sequence digest numbers head = refl
same_new frame (Some r) a b bytes sequence digest numbers head =
    ap (λ (h : List ℕ). record {
      generation = r.generation + 1;
      sequence = sequence;
      bank = if bytes_eq (recorded_bank frame h r) bytes then r.bank else 1 - r.bank;
      length = length bytes;
      digest = digest;
      active = numbers;
    }) head

module _ (laws : SoundLaws) (moments : EachMoment) (choosing : ChoiceLaw) (frame : Frame) (size : ℕ) (is : IsFrame size frame) (layout : List Entry) (allowed : IsLayout frame size layout)
    (places : Places) (tree : PlanTree) (held : Option Record) (few : IfSome held (IsLoadable frame)) (numbers : List ℕ) (standings : List Standing) (distinct : AreDistinct layout places)
    (choice : IsChoice layout (record { number = numbers })) (stand : StandAs layout places (record { number = numbers }) standings)
    (chosen : AreChosen layout places tree (active_slots held) numbers)
    (a b : Flash) (law : IsFlash a size) (law_b : IsFlash b size) (key : Key) (config : ConfigOf size a.reads (Configured layout key frame))
    (was : RecordOf frame (head_of frame a.reads) held) (kept : Keeps (OutsideTargets tree standings) a b) where
  typed : All IsTypedEntry layout
  typed = config.typed.entries

  here : FrameFacts size frame
  here = facts size frame is

  laws_here : MomentLaws frame size layout
  laws_here = moments frame size layout is allowed typed

  config_a : ConfigOf (length a.reads) a.reads (Configured layout key frame)
  config_a = subst (λ (n : ℕ). ConfigOf n a.reads (Configured layout key frame)) (sym law.fits) config

  kept_touched : Keeps (OutsideTouched layout places tree numbers) a b
  kept_touched = keeps_fewer (OutsideTouched layout places tree numbers) (OutsideTargets tree standings) (touched_outside layout places tree numbers standings distinct choice stand) a b kept

  kept_head : Keeps (InHead frame) a b
  kept_head = keeps_fewer (InHead frame) (OutsideTouched layout places tree numbers) (head_out frame size layout allowed typed none here places tree numbers) a b kept_touched

  same_b : HasSameHead a.reads b.reads
  same_b = same_head size frame is a.reads b.reads law.fits config.told kept_head.reads

  pub head_b : head_of frame b.reads ≡ head_of frame a.reads
  head_b = same_b.head frame config.told

  -- it tells the same frame
  pub told_b : frame_told b.reads ≡ Some frame
  told_b = told_there a.reads b.reads same_b ∙ config.told

  pub was_b : RecordOf frame (head_of frame b.reads) held
  was_b = subst (λ (h : List ℕ). RecordOf frame h held) (sym head_b) was

  pub active_b : HasActiveSlots frame b.reads numbers
  active_b = choosing frame b.reads layout key held places tree numbers (same_config a.reads b.reads same_b (Configured layout key frame) config_a) was_b chosen

  -- the procedure changed no content but those of slots that may be written
  pub contents_made : KeepsContents layout places tree numbers a.reads b.reads
  contents_made i n slot at not = laws_here.procedure places tree numbers a.reads b.reads law.fits kept_touched.reads i n slot at not

  -- nor did what came behind it
  pub contents_since : (d : List ℕ) → SameOn (BesideHead frame) b.reads d → KeepsContents layout places tree numbers a.reads d
  contents_since d same i n slot at not =
      beside frame size layout is allowed typed b.reads d law_b.fits same i n slot at ∙ contents_made i n slot at not

  pub new_as : (bytes : List ℕ) (sequence : ℕ) (digest : Digest) → new_record frame held b.reads bytes sequence digest numbers ≡ new_record frame held a.reads bytes sequence digest numbers
  new_as bytes sequence digest = same_new frame held a.reads b.reads bytes sequence digest numbers head_b

  module _ (settled : Settled a) where
    pub firm_b : IsFirmOn (InHead frame) b
    firm_b = firm_then (InHead frame) a b size law_b (head_is_firm a frame config.told settled) kept_head

    sound_run : Passes a b Sound
    sound_run = sound_since laws a b size law frame is config.told settled kept_head

    follows_run : Passes a b (Follows a.reads)
    follows_run = follows_since laws a b size law frame is config.told settled kept_head

    pub sound_b : Sound b.reads
    sound_b = each_read a b size Sound law_b sound_run

    -- ---- behind it

    module _ (bytes : List ℕ) (sequence : ℕ) (digest : Digest) (fits : length bytes ≤ bank_size frame) (d : Flash) (law_d : IsFlash d size) where
      abbrev new : Record
      new = new_record frame held a.reads bytes sequence digest numbers

      abbrev Moment : List ℕ → Type 0
      Moment image = IsOld (placed_on frame layout places tree) numbers held a.reads image ⊎ IsNew frame layout new b.reads image

      pub new_is : new_record frame held b.reads bytes sequence digest numbers ≡ new
      new_is = same_new frame held a.reads b.reads bytes sequence digest numbers head_b

      module _ (since : Passes b d (NowOr (IsInstalling frame held (new_record frame held b.reads bytes sequence digest numbers) bytes b) b)) where
        pub moments_of : Passes a d Moment
        moments_of =
            finished frame size is layout laws_here places tree numbers held a law was (head_out frame size layout allowed typed none here places tree numbers)
            (settled_head frame layout key a settled config_a) (settled_slots frame layout key a settled config_a (listed frame size layout allowed typed none))
            b law_b kept_touched.images laws new bytes few fits told_b sound_b firm_b d
            (subst (λ (r : Record). Passes b d (NowOr (IsInstalling frame held r bytes b) b)) new_is since)

        pub moment_at_end : Moment d.reads
        moment_at_end = each_read a d size Moment law_d moments_of

        -- where the new record stands at the end, so do the contents that were made
        pub new_at_end : OneAnswer → (r : Record) → r ≡ new_record frame held b.reads bytes sequence digest numbers → RecordOf frame (head_of frame d.reads) (Some r) → IsNew frame layout new b.reads d.reads
        new_at_end one r same recorded = ⊎_elim
            (λ old. absurd (not_held one frame (head_of frame d.reads) held new refl old.record_is (subst (λ (n : Record). RecordOf frame (head_of frame d.reads) (Some n)) (same ∙ new_is) recorded)))
            (λ now. now)
            moment_at_end

      pub old_b : IsOld (placed_on frame layout places tree) numbers held a.reads b.reads
      old_b =
          reads_old frame size is layout laws_here places tree numbers held a law was (head_out frame size layout allowed typed none here places tree numbers)
          (settled_head frame layout key a settled config_a) (settled_slots frame layout key a settled config_a (listed frame size layout allowed typed none))
          b law_b kept_touched.images laws new bytes few fits told_b sound_b firm_b

      pub old_at_end : d.reads ≡ b.reads → IsOld (placed_on frame layout places tree) numbers held a.reads d.reads
      old_at_end same = subst (λ (l : List ℕ). IsOld (placed_on frame layout places tree) numbers held a.reads l) (sym same) old_b

      -- and the whole time, where nothing was installed
      pub old_all : Passes b d (Now b) → Passes a d (IsOld (placed_on frame layout places tree) numbers held a.reads)
      old_all still =
          kept_old frame size is layout laws_here places tree numbers held a law was (head_out frame size layout allowed typed none here places tree numbers)
          (settled_head frame layout key a settled config_a) (settled_slots frame layout key a settled config_a (listed frame size layout allowed typed none))
          b law_b kept_touched.images laws new bytes few fits told_b sound_b firm_b d still

      pub sound_all : (IsFirmOn (InHead frame) b → Sound b.reads → MayBeInstalled frame b.reads bytes (new_record frame held b.reads bytes sequence digest numbers) → Passes b d (NowOr Sound b)) → MayBeInstalled frame a.reads bytes new → Passes a d Sound
      sound_all to may =
          joined a b d Sound sound_run
          (weakens b d (NowOr Sound b) Sound (λ image is. ⊎_elim (λ now. each_now a b size Sound law_b sound_run image now) (λ s. s) is)
          (to firm_b sound_b (λ l k there. subst (λ (r : Record). IsInstalled l k bytes r) (sym new_is)
          (may l k (same_config b.reads a.reads (back a.reads b.reads same_b) (Configured l k frame) there)))))

      pub follows_all : (IsFirmOn (InHead frame) b → Sound b.reads → IfSome held (λ r. IsNoEarlier r (new_record frame held b.reads bytes sequence digest numbers)) → Passes b d (NowOr (Follows b.reads) b))
          → IfSome held (λ r. IsNoEarlier r (new_record frame held b.reads bytes sequence digest numbers)) → Passes a d (Follows a.reads)
      follows_all to sure =
          joined a b d (Follows a.reads) follows_run
          (weakens b d (NowOr (Follows b.reads) b) (Follows a.reads)
          (λ image is. ⊎_elim (λ now. each_now a b size (Follows a.reads) law_b follows_run image now)
          (λ f. laws.onward a.reads b.reads image (each_read a b size (Follows a.reads) law_b follows_run) f) is)
          (to firm_b sound_b sure))
