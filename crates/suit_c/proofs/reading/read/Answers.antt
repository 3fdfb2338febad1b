use Rattle.std.proofs.Common.{sym, subst}
use Rattle.suit_c.proofs.Answered.{ok_says}
use Rattle.suit_c.proofs.Within.{manifest_within}
use Rattle.suit_envelope.specs.Envelopes.{EnvelopeSays}
use Rattle.suit_envelope.specs.Said.{said_by}
use Rattle.suit_manifest.specs.Manifests.{IsManifest}
use Rattle.suit_params.specs.Refusing.{SaysWhole}
use Rattle.suit_c.proofs.reading.read.Goals as goal

pub returns-in_err-envelope-clause-every_file : goal.returns-in_err-envelope-clause-every_file
returns-in_err-envelope-clause-every_file c said manifest file =
    let no = c.in_err-envelope.ensures.every_envelope said file.envelope in absurd cc

pub returns-in_err-manifest-clause-every_file : goal.returns-in_err-manifest-clause-every_file
returns-in_err-manifest-clause-every_file c said manifest file =
    let same = ok_says said_by c.in_ok-envelope.envelope said (c.in_ok-envelope.ensures.every_envelope said file.envelope) in
    let says = subst (λ (s : EnvelopeSays). SaysWhole IsManifest s.manifest_place s.manifest manifest) (sym same) file.says in
    let no = c.in_err-manifest.ensures.every_manifest manifest says in absurd cc

pub returns-clause-within : goal.returns-clause-within
returns-clause-within c = manifest_within c.envelope_laws.ensures c.args.file.now (said_by c.in_ok-envelope.envelope) c.in_ok-envelope.ensures.ok
