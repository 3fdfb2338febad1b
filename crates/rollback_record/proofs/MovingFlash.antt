-- The moments of a flash that is migrated.
use Rattle.std.proofs.Common.{◌≡◌, ⊎_elim, inl, inr, ◌≤◌, ◌<◌, ◌+◌, ℕ, List, length, get_or, Option, Some, None, refl, sym, subst, ◌∙◌, arith}
use Rattle.std.specs.List.{All, slice_range}
use Rattle.suit_edge.specs.Flash.{Flash, ImageOn, IsFlash, IsSame, Keeps, Now, Passes}
use Rattle.suit_edge.specs.FlashLaws.{each_now, image_fewer, joined, weakens}
use Rattle.suit_edge.specs.RangeLaws.{same_range}
use Rattle.suit_edge.specs.Ranges.{SameOn}
use Rattle.flash_layout.specs.declared.frame.Frame.{Frame}
use Rattle.flash_layout.specs.declared.frame.TheConstants.{ROOT_GATE, VERSION_1}
use Rattle.flash_layout.specs.declared.key.Key.{Key}
use Rattle.flash_layout.specs.declared.layout.Entry.{Entry}
use Rattle.flash_layout.specs.Configs.{ConfigOf, Configured}
use Rattle.flash_layout.specs.FirstFrame.{second_base}
use Rattle.flash_layout.specs.FrameFacts.{FrameFacts, facts}
use Rattle.flash_layout.specs.Frames.{IsFrame, bank_place, head_of, page_bytes, record_place}
use Rattle.flash_layout.specs.Layouts.{IsLayout}
use Rattle.flash_layout.specs.RootLaws.{first_closed}
use Rattle.flash_layout.specs.Slots.{layout_slots, slot_content}
use Rattle.flash_layout.specs.ToldFrames.{front_there}
use Rattle.rollback_record.specs.declared.moved.Installed.{Installed}
use Rattle.rollback_record.specs.Migrating.{IsReady, IsSameInstallation}
use Rattle.rollback_record.specs.Moved.{HasEnvelope, HasFirstPage, HasRoom, IsFilled, IsHeldRead, IsMovedTo, IsMoving, IsRootClosed, IsRootShut, IsRooting, OutsideFrame, OutsideMoved, OutsideRoot}
use Rattle.rollback_record.specs.RecordPage.{record_length}
use Rattle.rollback_record.specs.SoundFlash.{HoldsSame}
use Rattle.rollback_record.proofs.MovedFirst.{resting, tells_first}
use Rattle.rollback_record.proofs.MovedSecond.{tells_second}
use Rattle.rollback_record.proofs.MovedSlots.{same_slots}
use Rattle.rollback_record.proofs.Widths.{most_few}

module _ (size : ℕ) (frame : Frame) (is : IsFrame size frame) (two : frame.version ≡ 2) (layout : List Entry) (key : Key) (installed : Option Installed) (room : HasRoom frame installed) where
  base_far : 49152 ≤ frame.base
  base_far = second_base size frame is two

  there : FrameFacts size frame
  there = facts size frame is

  -- ---- all that stands at the base stays while the root is written

  module _ (old image : List ℕ) (sized : length old ≡ size) (same : SameOn OutsideRoot old image) where
    far_same : (i : ℕ) → frame.base ≤ i → get_or image i 0 ≡ get_or old i 0
    far_same i low = same.same i (inr (omega (arith, low, base_far)))

    part : (from to : ℕ) → frame.base ≤ from → to ≤ size → slice_range image from to ≡ slice_range old from to
    part from to low high = same_range image old from to same.size (omega (arith, high, sized, same.size)) (λ i from_low below. far_same i (omega (arith, low, from_low)))

    first_page : (i : Option Installed) → HasFirstPage frame i old → HasFirstPage frame i image
    first_page None shut = far_same (record_place frame 0) (omega arith) ∙ shut
    first_page (Some i) page = part (record_place frame 0) (record_place frame 0 + record_length frame) (omega arith) (omega (arith, there.inside, there.head, most_few frame)) ∙ page

    envelope : (i : Option Installed) → HasRoom frame i → HasEnvelope frame i old → HasEnvelope frame i image
    envelope None fits is = tt
    envelope (Some i) fits is = part (bank_place frame 0) (bank_place frame 0 + length i.envelope.items) (omega arith) (omega (arith, fits, there.inside, there.head, there.first_bank)) ∙ is

    pub filled_there : IsFilled frame layout key installed old → IsFilled frame layout key installed image
    filled_there filled = record {
      page = part frame.base (frame.base + page_bytes frame) (omega arith) (omega (arith, there.inside, there.page, there.head)) ∙ filled.page;
      records = record { first = first_page installed filled.records.first; second = far_same (record_place frame 1) (omega arith) ∙ filled.records.second };
      envelope = envelope installed room filled.envelope;
      work = λ so. let work = filled.work so in (far_same (frame.base + 147456) (omega arith) ∙ work.0, far_same (frame.base + 155648) (omega arith) ∙ work.1);
    }

  -- ---- moments

  module _ (start b c : Flash) (law : IsFlash start size) (law_b : IsFlash b size) (kept : Keeps (OutsideFrame frame) start b) (shut : IsRootShut start) where
    gate_out : OutsideFrame frame ROOT_GATE
    gate_out = inl (omega (arith, base_far))

    closed_on : (image : List ℕ) → ImageOn (OutsideFrame frame) start image → IsRootClosed image
    closed_on image on opened = shut on.from on.was (sym (on.same.same 45056 gate_out) ∙ opened)

    pub shut_then : IsRootShut b
    shut_then image now = closed_on image (each_now start b size (ImageOn (OutsideFrame frame) start) law_b kept.images image now)

    moving_on : (image : List ℕ) → ImageOn (OutsideFrame frame) start image → IsMoving frame layout key installed start image
    moving_on image on = record { on = image_fewer (OutsideMoved frame) (OutsideFrame frame) (λ i o. o.0) start image on; root = inl (closed_on image on) }

    -- while it is filled
    pub filling : Passes start b (IsMoving frame layout key installed start)
    filling = weakens start b (ImageOn (OutsideFrame frame) start) (IsMoving frame layout key installed start) moving_on kept.images

    by_root : IsFilled frame layout key installed b.reads → (image : List ℕ) → IsRooting frame b image → IsMoving frame layout key installed start image
    by_root filled image (inl waits) =
        let before = each_now start b size (ImageOn (OutsideFrame frame) start) law_b kept.images waits.0.from waits.0.was in
        record {
          on = record {
            from = before.from;
            was = before.was;
            same = record { size = waits.0.same.size ∙ before.same.size; same = λ i o. waits.0.same.same i o.1 ∙ before.same.same i o.0 };
          };
          root = inl waits.1;
        }
    by_root filled image (inr rooted) = record {
      on = record {
        from = start.reads;
        was = law.reads_may;
        same = record { size = rooted.rest.size ∙ kept.reads.size; same = λ i o. rooted.rest.same i o.1 ∙ kept.reads.same i o.0 };
      };
      root = inr (record { told = rooted.told; filled = filled_there b.reads image law_b.fits rooted.rest filled });
    }

    -- and while the root is written
    pub moving : IsFilled frame layout key installed b.reads → Passes b c (IsRooting frame b) → Passes start c (IsMoving frame layout key installed start)
    moving filled run = joined start b c (IsMoving frame layout key installed start) filling (weakens b c (IsRooting frame b) (IsMoving frame layout key installed start) (by_root filled) run)

  -- ---- what is told once it has moved

  pub moved_alike : IsLayout frame size layout → (a image : List ℕ) → length a ≡ size → ConfigOf size a (Configured layout key VERSION_1) → IsHeldRead VERSION_1 (head_of VERSION_1 a) installed → SameOn (OutsideMoved frame) a image
      → IsMovedTo frame layout key installed image → IsSameInstallation a image
  moved_alike allowed a image sized config read same moved =
      tells_second layout key a image frame (subst (λ (n : ℕ). ConfigOf n a (Configured layout key VERSION_1)) (sym sized) config) (subst (λ (n : ℕ). IsFrame n frame) (sym sized) is)
      (subst (λ (n : ℕ). IsLayout frame n layout) (sym sized) allowed) two same.size moved.told installed moved.filled read.held read.is read.read
      (same_slots frame size image a same.size sized (λ i low out. same.same i (out, inr (omega (arith, low)))) layout allowed.each)

  -- ---- what each moment tells

  module _ (allowed : IsLayout frame size layout) (start b c : Flash) (law : IsFlash start size) (law_b : IsFlash b size) (same : IsSame start b) (ready : IsReady start)
      (config : ConfigOf size start.reads (Configured layout key VERSION_1)) (read : IsHeldRead VERSION_1 (head_of VERSION_1 start.reads) installed) where
    abbrev a : List ℕ
    a = start.reads

    config_here : ConfigOf (length a) a (Configured layout key VERSION_1)
    config_here = subst (λ (n : ℕ). ConfigOf n a (Configured layout key VERSION_1)) (sym law.fits) config

    -- the root is closed at the start
    pub shut_start : IsRootShut start
    shut_start image now opened =
        let head = (ready.settled.sure image now).head in
        first_closed a VERSION_1 config.told refl (sym (front_there a image head 45056 (omega arith)) ∙ opened)

    module _ (image : List ℕ) (on : ImageOn (OutsideMoved frame) start image) where
      holds : HoldsSame a on.from
      holds = ready.settled.sure on.from on.was

      long : length image ≡ length a
      long = on.same.size ∙ holds.head.long

      front : (i : ℕ) → i < 45056 → get_or image i 0 ≡ get_or a i 0
      front i low = on.same.same i (inl (omega (arith, low, base_far)), inl low) ∙ front_there a on.from holds.head i (omega (arith, low))

      slots : All (λ slot. slot_content slot image ≡ slot_content slot a) (layout_slots layout)
      slots k d lt =
          same_slots frame size image on.from on.same.size (law.sized start.clock on.from (omega arith) on.was) (λ i low out. on.same.same i (out, inr (omega (arith, low)))) layout allowed.each k d lt
          ∙ holds.slots layout key VERSION_1 config_here k d lt

      tells : IsRootClosed image → IsSameInstallation a image
      tells closed = tells_first a image layout key long config_here front closed slots

      tells_moved : IsMovedTo frame layout key installed image → IsSameInstallation a image
      tells_moved moved =
          tells_second layout key a image frame config_here (subst (λ (n : ℕ). IsFrame n frame) (sym law.fits) is) (subst (λ (n : ℕ). IsLayout frame n layout) (sym law.fits) allowed) two long moved.told installed moved.filled
          read.held read.is read.read slots

    by_moving : (image : List ℕ) → IsMoving frame layout key installed start image → IsSameInstallation a image
    by_moving image m = ⊎_elim (tells image m.on) (tells_moved image m.on) m.root

    -- seen from the start
    from_start : (image : List ℕ) → IsMoving frame layout key installed b image → IsMoving frame layout key installed start image
    from_start image m = record {
      on = record { from = m.on.from; was = each_now start b size (Now start) law_b same.images m.on.from m.on.was; same = m.on.same };
      root = m.root;
    }

    pub tells_all : Passes b c (IsMoving frame layout key installed b) → Passes start c (IsSameInstallation a)
    tells_all run = joined start b c (IsSameInstallation a)
        (weakens start b (Now start) (IsSameInstallation a) (resting start ready) same.images)
        (weakens b c (IsMoving frame layout key installed b) (IsSameInstallation a) (λ image m. by_moving image (from_start image m)) run)
