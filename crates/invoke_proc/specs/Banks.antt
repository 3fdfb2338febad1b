-- The record of a flash and the envelope in its bank, as they are read.
use Rattle.std.specs.Prelude.{◌≡◌, ℕ, List, Option, None, Result, Err}
use Rattle.suit_edge.specs.Faults.{Faulted}
use Rattle.flash_layout.specs.declared.frame.Frame.{Frame}
use Rattle.flash_layout.specs.declared.slot.Record.{Record}
use Rattle.flash_layout.specs.Frames.{head_of}
use Rattle.rollback_record.specs.HeadRecord.{RecordOf}
use Rattle.rollback_record.specs.SoundFlash.{recorded_bank}
use Rattle.invoke_proc.specs.declared.boot_end.BootEnd.{BootEnd}
use Rattle.invoke_proc.specs.declared.boot_end.BootEnd.TheVariants as ends
use Rattle.invoke_proc.specs.declared.bank.NoBank.{NoBank}
use Rattle.invoke_proc.specs.declared.bank.NoBank.TheVariants as banks

-- the flash that reads like this has this record, or none
abbrev pub record_in : Frame → List ℕ → Option Record → Type 0
record_in frame reads held = RecordOf frame (head_of frame reads) held

-- the bytes of the envelope in the bank of that record
abbrev pub bank_in : Frame → List ℕ → Record → List ℕ
bank_in frame reads r = recorded_bank frame (head_of frame reads) r

-- why no envelope is read: the flash has no record, or it failed
abbrev pub IsNoBank : Frame → List ℕ → NoBank → Type 0
IsNoBank frame reads banks.NothingInstalled = record_in frame reads None
IsNoBank frame reads banks.FlashFault = Unit {0}

-- the flash's count of faults rose if it failed, and stayed the same if not
abbrev pub BankCounts : {A : Type 0} → Result A NoBank → ℕ → ℕ → Type 0
BankCounts (Err banks.FlashFault) before now = Faulted before now
BankCounts _ before now = now ≡ before

-- how a boot ends if no envelope is read
abbrev pub without_bank : NoBank → BootEnd
without_bank banks.NothingInstalled = ends.NothingInstalled
without_bank banks.FlashFault = ends.FlashFault
