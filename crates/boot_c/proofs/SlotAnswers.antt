-- A flash has one answer for a component.
use Rattle.std.specs.Prelude.{◌≡◌, ◌⊎◌, ◌<◌, ◌≤◌, ℕ, ℤ, List, None, Some, length, slice_index_or}
use Rattle.std.proofs.Common.{◌∙◌, ap, arith, inl, inr, subst, sym}
use Rattle.boot_c.specs.BootAnswers.{HasConfig, HasNoConfig}
use Rattle.boot_c.specs.SlotAnswers.{InUse, IsFaultAnswer, IsHeldAnswer, IsSlotAnswer, LacksComponent, LacksRecord, NoComponent, NoConfig, NoRecord}
use Rattle.boot_c.specs.SlotsInUse.{IsInUse, StandsIn}
use Rattle.boot_c.specs.declared.slot.SuitSlot.{SuitSlot}
use Rattle.flash_layout.specs.ConfigLaws.{OneAnswer}
use Rattle.flash_layout.specs.Configs.{Bad, Blank, Config, Configured}
use Rattle.flash_layout.specs.Frames.{head_of}
use Rattle.flash_layout.specs.declared.frame.Frame.{Frame}
use Rattle.flash_layout.specs.declared.key.Key.{Key}
use Rattle.flash_layout.specs.declared.layout.Entry.{Entry}
use Rattle.flash_layout.specs.declared.layout.Memory.{Memory}
use Rattle.flash_layout.specs.declared.layout.Memory.TheVariants as memory
use Rattle.flash_layout.specs.declared.slot.Record.{Record}
use Rattle.invoke_proc.specs.Banks.{record_in}
use Rattle.rollback_record.specs.RecordLaws as records
use Rattle.suit_answers.specs.Answers.{code_of}
use Rattle.suit_answers.specs.declared.answer.Answer.{Answer}
use Rattle.suit_answers.specs.declared.answer.Answer.TheVariants as answers

-- ---- a flash has one configuration

layout_or : List Entry → Config → List Entry
layout_or other (Configured layout key frame) = layout
layout_or other Blank = other
layout_or other Bad = other

frame_or : Frame → Config → Frame
frame_or other (Configured layout key frame) = frame
frame_or other Blank = other
frame_or other Bad = other

module _ (law : OneAnswer) (flash : List ℕ) (a b : HasConfig flash) where
  same_config : Configured a.layout a.key a.frame ≡ Configured b.layout b.key b.frame
  same_config = law (length flash) flash (Configured a.layout a.key a.frame) (Configured b.layout b.key b.frame) a.is b.is

  one_layout : a.layout ≡ b.layout
  unfolding layout_or
  one_layout = ap (layout_or a.layout) same_config

  one_frame : a.frame ≡ b.frame
  unfolding frame_or
  one_frame = ap (frame_or a.frame) same_config

module _ (layout : List Entry) (key : Key) (frame : Frame) where
  blank_is_none : Blank ≡ Configured layout key frame → ⊥
  blank_is_none e = absurd cc

  bad_is_none : Bad ≡ Configured layout key frame → ⊥
  bad_is_none e = absurd cc

never_both : (law : OneAnswer) (flash : List ℕ) → HasNoConfig flash → HasConfig flash → ⊥
never_both law flash (inl blank) c = blank_is_none c.layout c.key c.frame (law (length flash) flash Blank (Configured c.layout c.key c.frame) blank c.is)
never_both law flash (inr bad) c = bad_is_none c.layout c.key c.frame (law (length flash) flash Bad (Configured c.layout c.key c.frame) bad c.is)

-- ---- a component stands in one memory

ram_or_flash : memory.Ram ≡ memory.Flash → ⊥
ram_or_flash e = absurd cc

other_memory : (layout : List Entry) (component : ℕ) → StandsIn layout component memory.Ram → StandsIn layout component memory.Flash → ⊥
other_memory layout component ram flash =
    let one : ram.entry ≡ flash.entry = ram.is ram.entry ∙ sym (flash.is ram.entry) in
    ram_or_flash (sym ram.stands ∙ ap (λ (e : Entry). e.memory) one ∙ flash.stands)

lacks_none : (layout : List Entry) (component : ℕ) → (length layout ≤ component) ⊎ StandsIn layout component memory.Ram → StandsIn layout component memory.Flash → ⊥
lacks_none layout component (inl beyond) stands = omega (arith, beyond, stands.within)
lacks_none layout component (inr ram) stands = other_memory layout component ram stands

pub stands_in : (layout entries : List Entry) (component : ℕ) (m : Memory) (entry : Entry) → entries ≡ layout → component < length entries → ((d : Entry) → entry ≡ slice_index_or entries component d) → entry.memory ≡ m → StandsIn layout component m
stands_in layout entries component m entry same within is stands =
    subst (λ (l : List Entry). StandsIn l component m) same (record { within = within; entry = entry; is = is; stands = stands })

-- ---- the reasons exclude each other

component_or_stands : (law : OneAnswer) (flash : List ℕ) (component : ℕ) (lacks : LacksComponent flash component) (config : HasConfig flash) → StandsIn config.layout component memory.Flash → ⊥
component_or_stands law flash component lacks config stands =
    lacks_none lacks.config.layout component lacks.none (subst (λ (l : List Entry). StandsIn l component memory.Flash) (one_layout law flash config lacks.config) stands)

some_or_none : (r : Record) → Some r ≡ None → ⊥
some_or_none r e = absurd cc

record_or_none : (law : OneAnswer) (one_record : records.OneAnswer) (flash : List ℕ) (component : ℕ) (slot : SuitSlot) → IsInUse flash component slot → LacksRecord flash component → ⊥
record_or_none law one_record flash component slot is lacks =
    let frame = one_frame law flash is.config lacks.config in
    let recorded = subst (λ (f : Frame). record_in f flash (Some is.installed)) frame is.recorded in
    some_or_none is.installed (one_record lacks.config.frame (head_of lacks.config.frame flash) (Some is.installed) None recorded lacks.none)

pub one_held : (law : OneAnswer) (one_record : records.OneAnswer) (flash : List ℕ) (component : ℕ) (a b : Answer) → IsHeldAnswer flash component a → IsHeldAnswer flash component b → a ≡ b
one_held law one_record flash component a b (InUse slot is x) (InUse other also y) = x ∙ sym y
one_held law one_record flash component a b (InUse slot is x) (NoConfig none y) = absurd (never_both law flash none is.config)
one_held law one_record flash component a b (InUse slot is x) (NoComponent lacks y) = absurd (component_or_stands law flash component lacks is.config is.stands)
one_held law one_record flash component a b (InUse slot is x) (NoRecord lacks y) = absurd (record_or_none law one_record flash component slot is lacks)
one_held law one_record flash component a b (NoConfig none x) (InUse slot is y) = absurd (never_both law flash none is.config)
one_held law one_record flash component a b (NoConfig none x) (NoConfig also y) = x ∙ sym y
one_held law one_record flash component a b (NoConfig none x) (NoComponent lacks y) = absurd (never_both law flash none lacks.config)
one_held law one_record flash component a b (NoConfig none x) (NoRecord lacks y) = absurd (never_both law flash none lacks.config)
one_held law one_record flash component a b (NoComponent lacks x) (InUse slot is y) = absurd (component_or_stands law flash component lacks is.config is.stands)
one_held law one_record flash component a b (NoComponent lacks x) (NoConfig none y) = absurd (never_both law flash none lacks.config)
one_held law one_record flash component a b (NoComponent lacks x) (NoComponent also y) = x ∙ sym y
one_held law one_record flash component a b (NoComponent lacks x) (NoRecord none y) = absurd (component_or_stands law flash component lacks none.config none.stands)
one_held law one_record flash component a b (NoRecord lacks x) (InUse slot is y) = absurd (record_or_none law one_record flash component slot is lacks)
one_held law one_record flash component a b (NoRecord lacks x) (NoConfig none y) = absurd (never_both law flash none lacks.config)
one_held law one_record flash component a b (NoRecord none x) (NoComponent lacks y) = absurd (component_or_stands law flash component lacks none.config none.stands)
one_held law one_record flash component a b (NoRecord lacks x) (NoRecord also y) = x ∙ sym y

pub told_held : (law : OneAnswer) (one_record : records.OneAnswer) (flash : List ℕ) (component : ℕ) (a b : Answer) → IsSlotAnswer flash component a → IsHeldAnswer flash component b → (a ≡ b) ⊎ IsFaultAnswer a
told_held law one_record flash component a b (inl fault) held = inr fault
told_held law one_record flash component a b (inr is) held = inl (one_held law one_record flash component a b is held)

pub coded : (z : ℤ) (a b : Answer) → z ≡ code_of a → (a ≡ b) ⊎ IsFaultAnswer a → (z ≡ code_of b) ⊎ (z ≡ code_of answers.FlashFault) ⊎ (z ≡ code_of answers.NoMemory)
coded z a b is (inl same) = inl (is ∙ ap code_of same)
coded z a b is (inr (inl fault)) = inr (inl (is ∙ ap code_of fault))
coded z a b is (inr (inr starved)) = inr (inr (is ∙ ap code_of starved))
