-- Why an update that `run update` began ends so: the cause of each status, over objects that tell what they hold.
use Rattle.std.specs.Prelude.{◌≡◌, ◌⊎◌, ℕ, IsTrue, List, Option}
use Rattle.step_machine.specs.Devices.{device_at}
use Rattle.suit_envelope.specs.Payloads.{HasPayloads}
use Rattle.suit_envelope.specs.WrapperParts.{WrapperSays}
use Rattle.suit_params.specs.declared.digest.Digest.{Digest}
use Rattle.path_model.specs.declared.cause.Cause.{Cause}
use Rattle.flash_layout.specs.declared.frame.Frame.{Frame}
use Rattle.flash_layout.specs.declared.key.Key.{Key}
use Rattle.flash_layout.specs.declared.layout.Entry.{Entry}
use Rattle.flash_layout.specs.declared.slot.Record.{Record}
use Rattle.flash_layout.specs.Frames.{head_of}
use Rattle.rollback_record.specs.HeadRecord.{RecordOf}
use Rattle.rollback_record.specs.Judging.{IsAcceptable, IsJudged}
use Rattle.rollback_record.specs.declared.judging.Judged.{Judged}
use Rattle.rollback_record.specs.declared.judging.Judged.TheVariants as judged
use Rattle.step_machine.specs.declared.plan_end.PlanEnd.{PlanEnd}
use Rattle.step_machine.specs.declared.plan_end.PlanEnd.TheVariants as plays
use Rattle.update_proc.specs.declared.update_end.UpdateEnd.{UpdateEnd}
use Rattle.update_proc.specs.declared.update_end.UpdateEnd.TheVariants as ends
use Rattle.update_proc.specs.Ends.{JudgedSo}
use Rattle.update_proc.specs.Offered.{ForOffer}
use Rattle.update_proc.specs.Updates.{PlaysAndLeaves, PlaysUpdate, hosted, sources}
use Rattle.suit_cli.specs.Acceptance.{Accepted, IsAccepted}
use Rattle.suit_cli.specs.Inputs.{longest_file, IsRead}
use Rattle.suit_cli.specs.Installed.{Holds}
use Rattle.suit_cli.specs.Launching.{Launching}
use Rattle.suit_cli.specs.Outside.{Outside}
use Rattle.suit_cli.specs.Surroundings.{Seen}
use Rattle.suit_cli.specs.Updating.{Updates, Offer, offer, placed_of, update_line}

-- the number of what is offered and the digest of its manifest, beside the record that the flash has
abbrev pub Beside : Offer → Outside → (ℕ → Digest → Option Record → Type 0) → Type 0
Beside o before P =
    ForOffer o.frame before.flash.reads o.accepted.said.wrapper
    (λ held digest. P o.accepted.manifest.sequence digest held)

abbrev pub IsJudgedAs : Offer → Outside → Judged → Type 0
IsJudgedAs o before verdict =
    Beside o before (λ number digest held. IsJudged number digest held verdict)

-- it may be recorded, and its update procedure was played to this end, with the payloads of the file
abbrev pub PlayedBeside : Offer → List (List ℕ × List ℕ) → Launching → Launching → Outside
    → Outside → PlanEnd → Type 0
PlayedBeside o uris launched now before after end =
    Beside o before (λ number digest held.
    IsAcceptable number digest held
    × ((payloads : List (List ℕ × List ℕ)) → HasPayloads o.bytes payloads
    → PlaysAndLeaves
    (λ made play. (since : List (List ℕ))
    × PlaysUpdate (placed_of o) held
    (sources payloads uris (hosted before.told before.files since after.asked))
    (device_at before.flash.reads launched.launches) (device_at made now.launches) play)
    o.layout after.flash.reads end))

pub data UpdateEnds (o : Offer) (uris : List (List ℕ × List ℕ)) (launched now : Launching)
    (before after : Outside) : UpdateEnd → Type 0 where
  -- status 5, `rollback: recorded N, offered M`
  IsLower : (recorded offered : ℕ) → IsJudgedAs o before (judged.Lower recorded offered)
      → UpdateEnds o uris launched now before after (ends.Lower recorded offered)
  -- status 5, `rollback: number N has another manifest`
  IsOther : (recorded offered : Digest) → IsJudgedAs o before (judged.OtherDigest recorded offered)
      → UpdateEnds o uris launched now before after (ends.OtherDigest recorded offered)
  -- status 19, `record worn`
  IsWorn : IsJudgedAs o before judged.Worn → UpdateEnds o uris launched now before after ends.Worn
  -- status 0, `installed N`
  IsInstalled : (installed : Record) → PlayedBeside o uris launched now before after plays.Done
      → UpdateEnds o uris launched now before after (ends.Installed installed)
  -- status 6, `stopped at P: condition failed`
  IsStopped : (place : ℕ)
      → PlayedBeside o uris launched now before after (plays.ConditionFailed place)
      → UpdateEnds o uris launched now before after (ends.Condition place)
  -- status 6, `stopped at P: WHY`; 7, 8 or 10 where an object failed in a directive
  IsFailed : (place : ℕ) (cause : Cause)
      → PlayedBeside o uris launched now before after (plays.DirectiveFailed place cause)
      → UpdateEnds o uris launched now before after (ends.Stopped place cause)
  -- status 8, where the flash failed outside of the procedure, or 11
  FlashFailed : UpdateEnds o uris launched now before after ends.FlashFault
  MemoryRanOut : UpdateEnds o uris launched now before after ends.NoMemory

-- the file was accepted under the configuration of the flash, and its end has that cause and that line
pub record UpdateIsCaused (name : List ℕ) (uris : List (List ℕ × List ℕ)) (before after : Seen)
    (end : UpdateEnd) (lines : List ℕ) : Type 0 where
  pub layout : List Entry
  pub key : Key
  pub frame : Frame
  pub config : Holds before.outside.flash (layout, key, frame)
  pub bytes : List ℕ
  pub read : IsRead longest_file name before.outside bytes
  pub accepted : Accepted
  pub is_accepted : IsAccepted frame layout key bytes accepted
  pub ends :
      UpdateEnds (offer frame layout key bytes accepted) uris before.launcher after.launcher
      before.outside after.outside end
  pub lines_are : lines ≡ update_line accepted.manifest.sequence end

-- the same of the record alone: a file was accepted, and the verdict on it beside the record leads to that end
pub record UpdateIsJudged (name : List ℕ) (before : Outside) (end : UpdateEnd) : Type 0 where
  pub o : Offer
  pub config : Holds before.flash (o.layout, o.key, o.frame)
  pub read : IsRead longest_file name before o.bytes
  pub is_accepted : IsAccepted o.frame o.layout o.key o.bytes o.accepted
  pub judged : Beside o before (λ number digest held. JudgedSo number digest held end)

-- ---- where a cause stands

-- the file is accepted under the configuration of the flash, and this is the verdict on it beside the record
pub record IsOffered (name : List ℕ) (before : Outside) (verdict : Judged) : Type 0 where
  pub layout : List Entry
  pub key : Key
  pub frame : Frame
  pub config : Holds before.flash (layout, key, frame)
  pub bytes : List ℕ
  pub read : IsRead longest_file name before bytes
  pub accepted : Accepted
  pub is_accepted : IsAccepted frame layout key bytes accepted
  pub held : Option Record
  pub recorded : RecordOf frame (head_of frame before.flash.reads) held
  pub digest : Digest
  pub blocks : List (List ℕ)
  pub states : WrapperSays accepted.said.wrapper digest blocks
  pub is_judged : IsJudged accepted.manifest.sequence digest held verdict

-- the end that a verdict leads to: its own, or where the file may be recorded, that of its play
abbrev pub IsEndOf : Judged → UpdateEnd → Type 0
IsEndOf (judged.Lower recorded offered) end = end ≡ ends.Lower recorded offered
IsEndOf (judged.OtherDigest recorded offered) end = end ≡ ends.OtherDigest recorded offered
IsEndOf judged.Worn end = end ≡ ends.Worn
IsEndOf judged.Accepted (ends.Installed installed) = Unit {0}
IsEndOf judged.Accepted (ends.Condition place) = Unit {0}
IsEndOf judged.Accepted (ends.Stopped place cause) = Unit {0}
IsEndOf judged.Accepted _ = ⊥

-- the flash failed outside of the procedure, status 8, or memory ran out, 11
abbrev pub IsNoEnd : UpdateEnd → Type 0
IsNoEnd ends.FlashFault = Unit {0}
IsNoEnd ends.NoMemory = Unit {0}
IsNoEnd _ = ⊥

pub record UpdateEndLaws : Type 0 where
  -- each end has its cause
  pub only : (name : List ℕ) (uris : List (List ℕ × List ℕ)) (before after : Seen)
      (end : UpdateEnd) (lines : List ℕ)
      → IsTrue before.outside.told → IsTrue before.outside.flash.told
      → IsTrue before.launcher.told
      → Updates name uris before after end lines
      → UpdateIsCaused name uris before after end lines
  -- the verdict on what was accepted is that of the flash alone, whatever the host and the launcher are: statuses 5 and 19
  pub judged : (name : List ℕ) (uris : List (List ℕ × List ℕ)) (before after : Seen)
      (end : UpdateEnd) (lines : List ℕ)
      → IsTrue before.outside.flash.told
      → Updates name uris before after end lines → UpdateIsJudged name before.outside end
  -- and where a verdict stands, each end is the one that it leads to, unless the flash failed or memory ran out
  pub always : (name : List ℕ) (uris : List (List ℕ × List ℕ)) (before after : Seen)
      (end : UpdateEnd) (lines : List ℕ) (verdict : Judged)
      → IsTrue before.outside.told → IsTrue before.outside.flash.told
      → IsTrue before.launcher.told
      → IsOffered name before.outside verdict
      → Updates name uris before after end lines
      → IsEndOf verdict end ⊎ IsNoEnd end
