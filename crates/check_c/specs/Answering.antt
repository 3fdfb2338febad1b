-- What a check returns, by number: each refusal has its own. The numbers are those of the program's `check`.
use Rattle.std.specs.Prelude.{◌≡◌, ◌⊎◌, ℕ, List}
use Rattle.admission.specs.Opening.{IsNotOpened, IsOpened}
use Rattle.admission.specs.declared.opening.TheConstants.{LONGEST_TRIMMED}
use Rattle.admission.specs.declared.refusal.NotOpened.{NotOpened}
use Rattle.admission.specs.declared.refusal.NotOpened.TheVariants as not_opened
use Rattle.admission.specs.declared.refusal.NotSafe.{NotSafe}
use Rattle.check_c.specs.Checking.{IsNotSafeManifest, IsSafeFile, IsSafeManifest, tells_not_safe}
use Rattle.suit_answers.specs.declared.answer.Answer.{Answer}
use Rattle.suit_answers.specs.declared.answer.Answer.TheVariants as answers
use Rattle.suit_envelope.specs.Envelopes.{EnvelopeSays}
use Rattle.suit_manifest.specs.MembersApart.{LacksMembers}
use Rattle.suit_manifest.specs.declared.manifest.Manifest.{Manifest}
use Rattle.suit_manifest.specs.declared.members.MemberFault.{MemberFault}
use Rattle.suit_manifest.specs.declared.members.MemberFault.TheVariants as faults

-- ---- the numbers

abbrev pub tells_not_opened : NotOpened → Answer
tells_not_opened (not_opened.NoEnvelope refusal) = answers.Refused
tells_not_opened (not_opened.TooLong size) = answers.TooLong
tells_not_opened (not_opened.NoManifest refusal) = answers.Refused
tells_not_opened not_opened.NoMemory = answers.NoMemory

abbrev pub tells_not_taken : MemberFault → Answer
tells_not_taken (faults.Severed name) = answers.Severed
tells_not_taken (faults.Differs name stated found) = answers.Differs
tells_not_taken (faults.Refused refusal) = answers.Refused
tells_not_taken faults.NoMemory = answers.NoMemory

-- ---- a manifest in its envelope, and then a file, that is refused with this answer

pub data IsManifestRefusedAs (said : EnvelopeSays) (manifest : Manifest) (answer : Answer)
    : Type 0 where
  NotTaken : (fault : MemberFault) → LacksMembers said manifest fault
      → answer ≡ tells_not_taken fault → IsManifestRefusedAs said manifest answer
  NotRun : (why : NotSafe) → IsNotSafeManifest said manifest why
      → answer ≡ tells_not_safe why → IsManifestRefusedAs said manifest answer

pub data IsRefusedAs (bytes : List ℕ) (answer : Answer) : Type 0 where
  Unopened : (refusal : NotOpened) → IsNotOpened LONGEST_TRIMMED bytes refusal
      → answer ≡ tells_not_opened refusal → IsRefusedAs bytes answer
  Opened : (said : EnvelopeSays) (manifest : Manifest)
      → IsOpened LONGEST_TRIMMED bytes said manifest → IsManifestRefusedAs said manifest answer
      → IsRefusedAs bytes answer

-- ---- what is returned: safe, refused with this answer, or out of memory

abbrev pub IsManifestAnswer : EnvelopeSays → Manifest → Answer → Type 0
IsManifestAnswer said manifest answer =
    ((answer ≡ answers.Done) × IsSafeManifest said manifest)
    ⊎ (answer ≡ answers.NoMemory)
    ⊎ IsManifestRefusedAs said manifest answer

abbrev pub IsFileAnswer : List ℕ → Answer → Type 0
IsFileAnswer bytes answer =
    ((answer ≡ answers.Done) × IsSafeFile bytes)
    ⊎ (answer ≡ answers.NoMemory)
    ⊎ IsRefusedAs bytes answer
