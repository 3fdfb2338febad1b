-- What a call for a slot answers (this project's own).
use Rattle.std.specs.Prelude.{◌≡◌, ◌⊎◌, ◌≤◌, ℕ, List, None, length}
use Rattle.boot_c.specs.BootAnswers.{HasConfig, HasNoConfig}
use Rattle.boot_c.specs.SlotsInUse.{IsInUse, StandsIn}
use Rattle.boot_c.specs.declared.slot.SuitSlot.{SuitSlot}
use Rattle.flash_layout.specs.declared.layout.Memory.TheVariants as memory
use Rattle.invoke_proc.specs.Banks.{record_in}
use Rattle.suit_answers.specs.declared.answer.Answer.{Answer}
use Rattle.suit_answers.specs.declared.answer.Answer.TheVariants as answers

-- the layout of the flash has no component of this index, or it stands in working memory
pub record LacksComponent (flash : List ℕ) (component : ℕ) : Type 0 where
  pub config : HasConfig flash
  pub none : (length config.layout ≤ component) ⊎ StandsIn config.layout component memory.Ram

-- the layout has the component in flash, and the flash has no record
pub record LacksRecord (flash : List ℕ) (component : ℕ) : Type 0 where
  pub config : HasConfig flash
  pub stands : StandsIn config.layout component memory.Flash
  pub none : record_in config.frame flash None

-- the answer to what the flash holds
pub data IsHeldAnswer (flash : List ℕ) (component : ℕ) (answer : Answer) : Type 0 where
  InUse : (slot : SuitSlot) → IsInUse flash component slot → answer ≡ answers.Done
      → IsHeldAnswer flash component answer
  NoConfig : HasNoConfig flash → answer ≡ answers.Unconfigured
      → IsHeldAnswer flash component answer
  NoComponent : LacksComponent flash component → answer ≡ answers.UnknownComponent
      → IsHeldAnswer flash component answer
  NoRecord : LacksRecord flash component → answer ≡ answers.NothingInstalled
      → IsHeldAnswer flash component answer

-- a read failed, or memory ran out
abbrev pub IsFaultAnswer : Answer → Type 0
IsFaultAnswer answer = (answer ≡ answers.FlashFault) ⊎ (answer ≡ answers.NoMemory)

abbrev pub IsSlotAnswer : List ℕ → ℕ → Answer → Type 0
IsSlotAnswer flash component answer = IsFaultAnswer answer ⊎ IsHeldAnswer flash component answer
