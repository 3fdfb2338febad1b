-- Chosen slots may be recorded as those in use.
use Rattle.std.proofs.Common.{inl, inr, ⊎_elim, ◌<◌, ℕ, ◌-◌, List, [], length, get_or, Option, Some, None, sym, ◌∙◌, ap, subst, arith}
use Rattle.std.proofs.lemmas.List.{get_or-replicate}
use Rattle.flash_layout.specs.declared.frame.Frame.{Frame}
use Rattle.flash_layout.specs.declared.layout.Entry.{Entry}
use Rattle.flash_layout.specs.declared.layout.Memory.TheVariants as memory
use Rattle.flash_layout.specs.declared.slot.Record.{Record}
use Rattle.flash_layout.specs.Frames.{config_page_of, head_of}
use Rattle.rollback_record.specs.HeadRecord.{RecordOf}
use Rattle.rollback_record.specs.RecordPage.{IsActiveSlot}
use Rattle.update_proc.specs.ChoiceLaws.{ChoiceLaw}
use Rattle.update_proc.specs.Choices.{active_slots}
use Rattle.rollback_record.proofs.ConfigSlots.{second_slot}

some_entry : Entry
some_entry = record { identifier = []; memory = memory.Ram; slots = 0; starts = []; capacity = 0; vendor = None; class = None; device = None }

-- the slots that are in use
pub held_active : (frame : Frame) (head : List ℕ) (held : Option Record) → RecordOf frame head held → (i : ℕ) → i < 32 → IsActiveSlot frame (config_page_of frame head) i (get_or (active_slots held) i 0)
held_active frame head None none i low = inl (get_or-replicate 32 i 0 0 low)
held_active frame head (Some r) is i low = is.counts.page.fields.active i low

pub chosen_active : ChoiceLaw
chosen_active frame image layout key held places tree numbers config was chosen i low = ⊎_elim
    (λ same. subst (λ (n : ℕ). IsActiveSlot frame (config_page_of frame (head_of frame image)) i n) (sym same) old)
    (λ other. ⊎_elim
    (λ first. inr (other.1 ∙ ap (λ (n : ℕ). 1 - n) first, omega (arith, other.0.0, config.page.allowed.few), second_slot frame (length image) (config_page_of frame (head_of frame image)) layout key config.page config.typed.entries config.typed.room i some_entry other.0.0 (other.0.1 some_entry)))
    (λ second. inl (other.1 ∙ ap (λ (n : ℕ). 1 - n) second.0))
    old)
    (chosen.either i)
  where
    old : IsActiveSlot frame (config_page_of frame (head_of frame image)) i (get_or (active_slots held) i 0)
    old = held_active frame (head_of frame image) held was i low
