-- Each refusal is answered by its number, and by no other one.
use Rattle.std.specs.Prelude.{◌≡◌, ◌≢◌, ◌⊎◌, ℕ, ℤ, List}
use Rattle.std.proofs.Common.{◌∙◌, ap, inl, inr, sym}
use Rattle.admission.specs.Judging.{MayNotRun}
use Rattle.admission.specs.Opening.{IsNotOpened, IsOpened}
use Rattle.admission.specs.declared.opening.TheConstants.{LONGEST_TRIMMED}
use Rattle.admission.specs.declared.refusal.NotOpened.{NotOpened}
use Rattle.admission.specs.declared.refusal.NotOpened.TheVariants as not_opened
use Rattle.admission.specs.declared.refusal.NotSafe.{NotSafe}
use Rattle.admission.specs.declared.refusal.NotSafe.TheVariants as not_safe
use Rattle.check_c.specs.Answering.{IsFileAnswer, IsManifestAnswer, IsManifestRefusedAs, NotRun, NotTaken, Opened, Unopened, tells_not_opened, tells_not_taken}
use Rattle.check_c.specs.Checking.{IsNotSafeManifest, tells_not_safe}
use Rattle.suit_answers.specs.Answers.{code_of}
use Rattle.suit_answers.specs.declared.answer.Answer.{Answer}
use Rattle.suit_answers.specs.declared.answer.Answer.TheVariants as answers
use Rattle.suit_envelope.specs.Envelopes.{EnvelopeSays}
use Rattle.suit_manifest.specs.MembersApart.{HasMembers, IsLackBy, LacksMembers}
use Rattle.suit_manifest.specs.declared.manifest.Manifest.{Manifest}
use Rattle.suit_manifest.specs.declared.manifest.Members.{Members}
use Rattle.suit_manifest.specs.declared.members.MemberFault.{MemberFault}
use Rattle.suit_manifest.specs.declared.members.MemberFault.TheVariants as faults

-- ---- what is answered has its reason

pub not_taken_answered : (said : EnvelopeSays) (manifest : Manifest) (fault : MemberFault) (answer : Answer) → answer ≡ tells_not_taken fault → IsLackBy (LacksMembers said manifest) fault → IsManifestAnswer said manifest answer
not_taken_answered said manifest (faults.Severed name) answer is lacks = inr (inr (NotTaken (faults.Severed name) lacks is))
not_taken_answered said manifest (faults.Differs name stated found) answer is lacks = inr (inr (NotTaken (faults.Differs name stated found) lacks is))
not_taken_answered said manifest (faults.Refused refusal) answer is lacks = inr (inr (NotTaken (faults.Refused refusal) lacks is))
not_taken_answered said manifest faults.NoMemory answer is lacks = inr (inl is)

pub not_run_answered : (said : EnvelopeSays) (manifest : Manifest) (members : Members) (why : NotSafe) (answer : Answer) → HasMembers said manifest members → answer ≡ tells_not_safe why → (why ≢ not_safe.NoMemory → MayNotRun manifest members why) → IsManifestAnswer said manifest answer
not_run_answered said manifest members (not_safe.TooWide procedure width) answer has is refused = inr (inr (NotRun (not_safe.TooWide procedure width) (record { members = members; has_members = has; not_safe = refused (λ e. absurd cc) }) is))
not_run_answered said manifest members (not_safe.Unsafe procedure path) answer has is refused = inr (inr (NotRun (not_safe.Unsafe procedure path) (record { members = members; has_members = has; not_safe = refused (λ e. absurd cc) }) is))
not_run_answered said manifest members not_safe.NoMemory answer has is refused = inr (inl is)

pub not_opened_answered : (bytes : List ℕ) (refusal : NotOpened) (answer : Answer) → answer ≡ tells_not_opened refusal → (refusal ≢ not_opened.NoMemory → IsNotOpened LONGEST_TRIMMED bytes refusal) → IsFileAnswer bytes answer
not_opened_answered bytes (not_opened.NoEnvelope refusal) answer is refused = inr (inr (Unopened (not_opened.NoEnvelope refusal) (refused (λ e. absurd cc)) is))
not_opened_answered bytes (not_opened.TooLong size) answer is refused = inr (inr (Unopened (not_opened.TooLong size) (refused (λ e. absurd cc)) is))
not_opened_answered bytes (not_opened.NoManifest refusal) answer is refused = inr (inr (Unopened (not_opened.NoManifest refusal) (refused (λ e. absurd cc)) is))
not_opened_answered bytes not_opened.NoMemory answer is refused = inr (inl is)

pub opened_answered : (bytes : List ℕ) (said : EnvelopeSays) (manifest : Manifest) (answer : Answer) → IsOpened LONGEST_TRIMMED bytes said manifest → IsManifestAnswer said manifest answer → IsFileAnswer bytes answer
opened_answered bytes said manifest answer opened (inl safe) = inl (safe.0, record { said = said; manifest = manifest; opened = opened; safe = safe.1 })
opened_answered bytes said manifest answer opened (inr (inl starved)) = inr (inl starved)
opened_answered bytes said manifest answer opened (inr (inr refused)) = inr (inr (Opened said manifest opened refused))

-- ---- what is refused is answered so

pub not_taken_once : (fault other : MemberFault) (result : Answer) → result ≡ tells_not_taken fault → (fault ≡ other) ⊎ (fault ≡ faults.NoMemory) → (result ≡ tells_not_taken other) ⊎ (result ≡ answers.NoMemory)
not_taken_once fault other result is (inl same) = inl (is ∙ ap tells_not_taken same)
not_taken_once fault other result is (inr starved) = inr (is ∙ ap tells_not_taken starved)

pub not_opened_once : (refusal other : NotOpened) (result : Answer) → result ≡ tells_not_opened refusal → (refusal ≡ other) ⊎ (refusal ≡ not_opened.NoMemory) → (result ≡ tells_not_opened other) ⊎ (result ≡ answers.NoMemory)
not_opened_once refusal other result is (inl same) = inl (is ∙ ap tells_not_opened same)
not_opened_once refusal other result is (inr starved) = inr (is ∙ ap tells_not_opened starved)

-- an answer is the one that is told
pub told_so : (result told answer : Answer) → answer ≡ told → (result ≡ told) ⊎ (result ≡ answers.NoMemory) → (result ≡ answer) ⊎ (result ≡ answers.NoMemory)
told_so result told answer is (inl same) = inl (same ∙ sym is)
told_so result told answer is (inr starved) = inr starved

pub manifest_told : (said : EnvelopeSays) (manifest : Manifest) (result answer : Answer) → ((fault : MemberFault) → LacksMembers said manifest fault → (result ≡ tells_not_taken fault) ⊎ (result ≡ answers.NoMemory)) → ((why : NotSafe) → IsNotSafeManifest said manifest why → (result ≡ tells_not_safe why) ⊎ (result ≡ answers.NoMemory)) → IsManifestRefusedAs said manifest answer → (result ≡ answer) ⊎ (result ≡ answers.NoMemory)
manifest_told said manifest result answer not_taken not_run (NotTaken fault lacks is) = told_so result (tells_not_taken fault) answer is (not_taken fault lacks)
manifest_told said manifest result answer not_taken not_run (NotRun why not_safe is) = told_so result (tells_not_safe why) answer is (not_run why not_safe)

pub coded : (z : ℤ) (a b : Answer) → z ≡ code_of a → (a ≡ b) ⊎ (a ≡ answers.NoMemory) → (z ≡ code_of b) ⊎ (z ≡ code_of answers.NoMemory)
coded z a b is (inl same) = inl (is ∙ ap code_of same)
coded z a b is (inr starved) = inr (is ∙ ap code_of starved)
