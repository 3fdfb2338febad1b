use Rattle.std.proofs.Common.{◌≡◌, ◌<◌, ◌≤◌, ℕ, List, None, Some, inl, inr, length, refl, slice_index_or, subst, sym}
use Rattle.boot_c.proofs.SlotAnswers.{stands_in}
use Rattle.boot_c.specs.SlotAnswers.{NoComponent, NoRecord}
use Rattle.boot_c.specs.SlotsInUse.{IsSlotOf}
use Rattle.flash_layout.specs.declared.layout.Memory.TheVariants as memory
use Rattle.flash_layout.specs.Frames.{head_of}
use Rattle.flash_layout.specs.Layouts.{IsEntry}
use Rattle.flash_layout.specs.declared.layout.Entry.{Entry}
use Rattle.flash_view.specs.ViewDisk.{ViewState}
use Rattle.rollback_record.specs.HeadRecord.{RecordOf}
use Rattle.rollback_record.proofs.FrameLoads.{loaded_as}
use Rattle.boot_c.proofs.slot.slot_by.Goals as goal

pub returns-in-Ok-clause-slot : goal.returns-in-Ok-clause-slot
returns-in-Ok-clause-slot c =
    let entry = c.in-Some.entry.now in
    let here = loaded_as c.args.frame c.new-disk.result.bytes c.in-Ok-Some.field-0 (Some c.in-Ok-Some.installed) c.in-Ok-Some.field-0-is (c.in-Ok-Some.ensures.exact refl) in
    record {
      config = record { layout = c.args.layout.now; key = c.args.key.now; frame = c.args.frame; is = c.requires.held };
      installed = c.in-Ok-Some.installed;
      recorded = subst (λ (d : ViewState). RecordOf c.args.frame (head_of c.args.frame d.bytes) (Some c.in-Ok-Some.installed)) c.new-disk.ensures here;
      stands = record {
        within = subst (λ (l : List Entry). c.args.component < length l) c.as_slice-entries.ensures c.in-Some.ensures.lookup.3.0;
        entry = entry;
        is = subst (λ (l : List Entry). (d : Entry) → entry ≡ slice_index_or l c.args.component d) c.as_slice-entries.ensures c.in-Some.ensures.lookup.3.1;
        stands = c.in-Flash.is;
      };
      there = subst (λ (n : ℕ). IsSlotOf entry n c.args.flash.now c.in-Ok.slot) c.number_of-number.ensures.is c.in-Ok.ensures.slot;
    }

pub returns-in-None-clause-answers : goal.returns-in-None-clause-answers
returns-in-None-clause-answers c = inr (NoComponent (record {
  config = record { layout = c.args.layout.now; key = c.args.key.now; frame = c.args.frame; is = c.requires.held };
  none = inl (subst (λ (l : List Entry). length l ≤ c.args.component) c.as_slice-entries.ensures c.in-None.ensures.lookup.3);
}) refl)

pub returns-in-Ram-clause-answers : goal.returns-in-Ram-clause-answers
returns-in-Ram-clause-answers c = inr (NoComponent (record {
  config = record { layout = c.args.layout.now; key = c.args.key.now; frame = c.args.frame; is = c.requires.held };
  none = inr (stands_in c.args.layout.now c.as_slice-entries.result.now c.args.component memory.Ram c.in-Some.entry.now c.as_slice-entries.ensures c.in-Some.ensures.lookup.3.0 c.in-Some.ensures.lookup.3.1 c.in-Ram.is);
}) refl)

pub returns-in-Ok-None-clause-answers : goal.returns-in-Ok-None-clause-answers
returns-in-Ok-None-clause-answers c =
    let here = loaded_as c.args.frame c.new-disk.result.bytes c.in-Ok-None.field-0 None c.in-Ok-None.field-0-is (c.in-Ok-None.ensures.exact refl) in
    inr (NoRecord (record {
      config = record { layout = c.args.layout.now; key = c.args.key.now; frame = c.args.frame; is = c.requires.held };
      stands = stands_in c.args.layout.now c.as_slice-entries.result.now c.args.component memory.Flash c.in-Some.entry.now c.as_slice-entries.ensures c.in-Some.ensures.lookup.3.0 c.in-Some.ensures.lookup.3.1 c.in-Flash.is;
      none = subst (λ (d : ViewState). RecordOf c.args.frame (head_of c.args.frame d.bytes) None) c.new-disk.ensures here;
    }) refl)

pub slot_in-requires-clause-entry : goal.slot_in-requires-clause-entry
slot_in-requires-clause-entry c =
    let entry = c.in-Some.entry.now in
    let inside = subst (λ (l : List Entry). c.args.component < length l) c.as_slice-entries.ensures c.in-Some.ensures.lookup.3.0 in
    let is = subst (λ (l : List Entry). (d : Entry) → entry ≡ slice_index_or l c.args.component d) c.as_slice-entries.ensures c.in-Some.ensures.lookup.3.1 in
    (c.args.frame, subst (IsEntry c.args.frame (length c.args.flash.now)) (sym (is entry)) (c.requires.allowed.layout_is.each c.args.component entry inside))
