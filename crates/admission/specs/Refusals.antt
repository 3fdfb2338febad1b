-- The refusals of single steps as refusals of an update.
use Rattle.suit_manifest.specs.declared.members.MemberFault.{MemberFault}
use Rattle.suit_manifest.specs.declared.members.MemberFault.TheVariants as faults
use Rattle.admission.specs.declared.refusal.NotAdmitted.{NotAdmitted}
use Rattle.admission.specs.declared.refusal.NotAdmitted.TheVariants as refusals
use Rattle.admission.specs.declared.refusal.NotOpened.{NotOpened}
use Rattle.admission.specs.declared.refusal.NotOpened.TheVariants as not_opened
use Rattle.admission.specs.declared.refusal.NotSafe.{NotSafe}
use Rattle.admission.specs.declared.refusal.NotSafe.TheVariants as not_safe

-- why the file is not opened
abbrev pub of_opening : NotOpened → NotAdmitted
of_opening (not_opened.NoEnvelope r) = refusals.NoEnvelope r
of_opening (not_opened.TooLong size) = refusals.TooLong size
of_opening (not_opened.NoManifest r) = refusals.NoManifest r
of_opening not_opened.NoMemory = refusals.NoMemory

-- why the severed members are not taken
abbrev pub of_members : MemberFault → NotAdmitted
of_members (faults.Severed name) = refusals.Severed name
of_members (faults.Differs name stated found) = refusals.Differs name stated found
of_members (faults.Refused r) = refusals.NoSequence r
of_members faults.NoMemory = refusals.NoMemory

-- why the procedures must not be run
abbrev pub of_procedures : NotSafe → NotAdmitted
of_procedures (not_safe.TooWide procedure width) = refusals.TooWide procedure width
of_procedures (not_safe.Unsafe procedure path) = refusals.Unsafe procedure path
of_procedures not_safe.NoMemory = refusals.NoMemory
