-- How an update ends, by how its procedure ended.
use Rattle.std.specs.Prelude.{◌≡◌, ◌⊎◌, ℕ, List, Option}
use Rattle.suit_edge.specs.Faults.{Faulted}
use Rattle.suit_edge.specs.Flash.{Flash, Now}
use Rattle.suit_params.specs.declared.digest.Digest.{Digest}
use Rattle.path_model.specs.declared.cause.Cause.{Cause}
use Rattle.path_model.specs.declared.cause.Cause.TheVariants as causes
use Rattle.flash_layout.specs.declared.slot.Record.{Record}
use Rattle.rollback_record.specs.Judging.{IsAcceptable, IsJudged}
use Rattle.rollback_record.specs.declared.judging.Judged.TheVariants as judged
use Rattle.step_machine.specs.declared.plan_end.PlanEnd.{PlanEnd}
use Rattle.step_machine.specs.declared.plan_end.PlanEnd.TheVariants as plays
use Rattle.step_machine.specs.PlanRuns.{Counts, CountsFor, FlashFailed, IsUnfaulted}
use Rattle.update_proc.specs.declared.update_end.UpdateEnd.{UpdateEnd}
use Rattle.update_proc.specs.declared.update_end.UpdateEnd.TheVariants as ends

-- ---- judged

-- the end fits the judgement of the number and the digest against the held record, unless the flash failed
abbrev pub JudgedSo : ℕ → Digest → Option Record → UpdateEnd → Type 0
JudgedSo sequence digest held (ends.Lower recorded offered) =
    IsJudged sequence digest held (judged.Lower recorded offered)
JudgedSo sequence digest held (ends.OtherDigest recorded offered) =
    IsJudged sequence digest held (judged.OtherDigest recorded offered)
JudgedSo sequence digest held ends.Worn = IsJudged sequence digest held judged.Worn
JudgedSo sequence digest held ends.FlashFault = Unit {0}
JudgedSo sequence digest held _ = IsAcceptable sequence digest held

-- the manifest may not be recorded
abbrev pub IsRefusal : UpdateEnd → Type 0
IsRefusal (ends.Lower recorded offered) = Unit {0}
IsRefusal (ends.OtherDigest recorded offered) = Unit {0}
IsRefusal ends.Worn = Unit {0}
IsRefusal _ = ⊥

-- the update ended before anything was launched or written
abbrev pub IsUnbegun : UpdateEnd → Type 0
IsUnbegun ends.NoMemory = Unit {0}
IsUnbegun answer = IsRefusal answer

-- ---- once the manifest is accepted

-- the end that tells how the procedure ended
abbrev pub IsEnd : PlanEnd → UpdateEnd → Type 0
IsEnd plays.Done answer = (r : Record) × (answer ≡ ends.Installed r)
IsEnd (plays.ConditionFailed place) answer = answer ≡ ends.Condition place
IsEnd (plays.DirectiveFailed place cause) answer = answer ≡ ends.Stopped place cause

-- the end tells how the procedure ended, or the flash failed after it
abbrev pub FinishedSo : PlanEnd → UpdateEnd → ℕ → ℕ → Type 0
FinishedSo end answer before now =
    (IsEnd end answer × (now ≡ before))
    ⊎ (IsUnfaulted end × (answer ≡ ends.FlashFault) × Faulted before now)

-- all pending writes were synced and this is the end, or the flash failed
abbrev pub SettledSo : UpdateEnd → UpdateEnd → ℕ → ℕ → Type 0
SettledSo end answer before now =
    ((answer ≡ end) × (now ≡ before)) ⊎ ((answer ≡ ends.FlashFault) × Faulted before now)

-- the end after a failed directive: the writes were synced, unless the flash failed in it
abbrev pub StoppedSo : ℕ → Cause → UpdateEnd → ℕ → ℕ → Type 0
StoppedSo place causes.FlashFault answer before now =
    (answer ≡ ends.Stopped place causes.FlashFault) × (now ≡ before)
StoppedSo place cause answer before now = SettledSo (ends.Stopped place cause) answer before now

-- the image is one that a power loss may have left at the start, or it has P
abbrev pub NowOr : (List ℕ → Type 0) → Flash → List ℕ → Type 0
NowOr P start image = Now start image ⊎ P image

-- the property holds if the procedure was stopped
abbrev pub IfStopped : PlanEnd → Type 0 → Type 0
IfStopped plays.Done P = Unit {0}
IfStopped _ P = P

-- the property holds if the end tells that the procedure was stopped
abbrev pub IfTold : UpdateEnd → Type 0 → Type 0
IfTold (ends.Condition place) P = P
IfTold (ends.Stopped place cause) P = P
IfTold _ P = Unit {0}

-- the property holds of the record, if the envelope was installed
abbrev pub IfInstalled : UpdateEnd → (Record → Type 0) → Type 0
IfInstalled (ends.Installed r) P = P r
IfInstalled _ P = Unit {0}

-- the property holds, unless the flash failed
abbrev pub IfUnfaulted : UpdateEnd → Type 0 → Type 0
IfUnfaulted ends.FlashFault P = Unit {0}
IfUnfaulted (ends.Stopped place causes.FlashFault) P = Unit {0}
IfUnfaulted _ P = P

-- ---- counts of faults

-- the count of faults rose of the object that failed
abbrev pub UpdateCounts : UpdateEnd → Counts → Counts → Type 0
UpdateCounts (ends.Stopped place cause) before now = CountsFor cause before now
UpdateCounts ends.FlashFault before now = FlashFailed before now
UpdateCounts _ before now = now ≡ before
