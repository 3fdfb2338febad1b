use Rattle.std.proofs.Common.{inr, subst}
use Rattle.admission.specs.Starting.{SpellManifest}
use Rattle.check_c.proofs.Answered.{manifest_told, not_opened_answered, not_opened_once, opened_answered, told_so}
use Rattle.check_c.proofs.Refused.{opening_refused}
use Rattle.check_c.specs.Answering.{IsManifestRefusedAs, Opened, Unopened, tells_not_opened}
use Rattle.check_c.specs.Checking.{AtMember, IsNotSafeManifest, IsSafeManifest}
use Rattle.suit_envelope.specs.Envelopes.{EnvelopeSays}
use Rattle.suit_envelope.specs.Said.{said_by}
use Rattle.suit_manifest.specs.declared.manifest.Manifest.{Manifest}
use Rattle.check_c.proofs.checking.judge_file.Goals as goal

pub returns-in-Ok-clause-every_safe : goal.returns-in-Ok-clause-every_safe
returns-in-Ok-clause-every_safe c safe =
    let opened = c.in-Ok.ensures.opened in
    let here : SpellManifest c.args.bytes.now (said_by c.in-Ok.file.envelope) c.in-Ok.file.manifest = record { spell = opened.within.spell; says = opened.says } in
    let there : SpellManifest c.args.bytes.now safe.said safe.manifest = record { spell = safe.opened.within.spell; says = safe.opened.says } in
    let one = c.admission_laws.ensures.starting.one_manifest c.args.bytes.now safe.said (said_by c.in-Ok.file.envelope) safe.manifest c.in-Ok.file.manifest there here in
    c.judge_opened.ensures.every_safe (subst (λ (s : EnvelopeSays). IsSafeManifest s c.in-Ok.file.manifest) one.0 (subst (λ (m : Manifest). IsSafeManifest safe.said m) one.1 safe.safe))

pub returns-in-Ok-clause-not_safe : goal.returns-in-Ok-clause-not_safe
returns-in-Ok-clause-not_safe c told =
    let found = c.judge_opened.ensures.not_safe told in (
      found.0,
      found.1,
      record {
        said = said_by c.in-Ok.file.envelope;
        manifest = c.in-Ok.file.manifest;
        opened = c.in-Ok.ensures.opened;
        not_safe = found.2;
      },
    )

pub returns-in-Ok-clause-every_refusal : goal.returns-in-Ok-clause-every_refusal
returns-in-Ok-clause-every_refusal c why not_safe =
    let opened = c.in-Ok.ensures.opened in
    let here : SpellManifest c.args.bytes.now (said_by c.in-Ok.file.envelope) c.in-Ok.file.manifest = record { spell = opened.within.spell; says = opened.says } in
    let there : SpellManifest c.args.bytes.now not_safe.said not_safe.manifest = record { spell = not_safe.opened.within.spell; says = not_safe.opened.says } in
    let one = c.admission_laws.ensures.starting.one_manifest c.args.bytes.now not_safe.said (said_by c.in-Ok.file.envelope) not_safe.manifest c.in-Ok.file.manifest there here in
    c.judge_opened.ensures.every_refusal why (subst (λ (s : EnvelopeSays). IsNotSafeManifest s c.in-Ok.file.manifest why) one.0 (subst (λ (m : Manifest). IsNotSafeManifest not_safe.said m why) one.1 not_safe.not_safe))

pub returns-in-Err-clause-every_safe : goal.returns-in-Err-clause-every_safe
returns-in-Err-clause-every_safe c safe = inr (c.not_opened.ensures.starved (c.in-Err.ensures.every_opened safe.said safe.manifest safe.opened))

pub returns-in-Err-clause-every_refusal : goal.returns-in-Err-clause-every_refusal
returns-in-Err-clause-every_refusal c why not_safe = inr (c.not_opened.ensures.starved (c.in-Err.ensures.every_opened not_safe.said not_safe.manifest not_safe.opened))

pub returns-in-Ok-clause-refused : goal.returns-in-Ok-clause-refused
returns-in-Ok-clause-refused c told = AtMember (said_by c.in-Ok.file.envelope) c.in-Ok.file.manifest c.in-Ok.ensures.opened (c.judge_opened.ensures.refused told)

pub returns-in-Err-clause-refused : goal.returns-in-Err-clause-refused
returns-in-Err-clause-refused c told = opening_refused c.args.bytes.now c.in-Err.refusal _ (c.not_opened.ensures.refused told) c.in-Err.ensures.refused

pub returns-in-Ok-clause-answers : goal.returns-in-Ok-clause-answers
returns-in-Ok-clause-answers c = opened_answered c.args.bytes.now (said_by c.in-Ok.file.envelope) c.in-Ok.file.manifest _ c.in-Ok.ensures.opened c.judge_opened.ensures.answers

pub returns-in-Err-clause-answers : goal.returns-in-Err-clause-answers
returns-in-Err-clause-answers c = not_opened_answered c.args.bytes.now c.in-Err.refusal _ c.not_opened.ensures.told c.in-Err.ensures.refused

pub returns-in-Ok-clause-every_answer : goal.returns-in-Ok-clause-every_answer
returns-in-Ok-clause-every_answer c answer (Unopened refusal not_opened is) = absurd (c.in-Ok.ensures.every_refusal refusal not_opened)
returns-in-Ok-clause-every_answer c answer (Opened said manifest other refused) =
    let opened = c.in-Ok.ensures.opened in
    let here : SpellManifest c.args.bytes.now (said_by c.in-Ok.file.envelope) c.in-Ok.file.manifest = record { spell = opened.within.spell; says = opened.says } in
    let there : SpellManifest c.args.bytes.now said manifest = record { spell = other.within.spell; says = other.says } in
    let one = c.admission_laws.ensures.starting.one_manifest c.args.bytes.now said (said_by c.in-Ok.file.envelope) manifest c.in-Ok.file.manifest there here in
    let so : IsManifestRefusedAs (said_by c.in-Ok.file.envelope) c.in-Ok.file.manifest answer = subst (λ (s : EnvelopeSays). IsManifestRefusedAs s c.in-Ok.file.manifest answer) one.0 (subst (λ (m : Manifest). IsManifestRefusedAs said m answer) one.1 refused) in
    manifest_told (said_by c.in-Ok.file.envelope) c.in-Ok.file.manifest c.judge_opened.result answer c.judge_opened.ensures.every_fault c.judge_opened.ensures.every_refusal so

pub returns-in-Err-clause-every_answer : goal.returns-in-Err-clause-every_answer
returns-in-Err-clause-every_answer c answer (Unopened refusal not_opened is) = told_so c.not_opened.result (tells_not_opened refusal) answer is (not_opened_once c.in-Err.refusal refusal c.not_opened.result c.not_opened.ensures.told (c.in-Err.ensures.every_refusal refusal not_opened))
returns-in-Err-clause-every_answer c answer (Opened said manifest opened refused) = inr (c.not_opened.ensures.starved (c.in-Err.ensures.every_opened said manifest opened))
