use Rattle.std.proofs.Common.{◌≡◌, refl, ap, subst, ◌∙◌}
use Rattle.std.proofs.lemmas.Result.{IfOk-weaker}
use Rattle.suit_envelope.specs.declared.parts.EnvelopeParts.{EnvelopeParts}
use Rattle.author.specs.declared.making.Parted.{Parted}
use Rattle.author.specs.Held.{value_of}
use Rattle.author.specs.MadeEnvelopes.{HasBlockBy, IsAuthenticUnder, HoldsPartsOf, HoldsManifestOf}
use Rattle.author.specs.MadeMembers.{HoldsMembersOf}
use Rattle.author.specs.MadePayloads.{HoldsPayloadsOf}
use Rattle.author.proofs.AsGiven.{given_ok}
use Rattle.author.proofs.MadeAnswers.{StandBeside, made_ok, made_refused, made_envelope, made_limit, authentic_made, holds_parts, manifest_said, holds_manifest, severed_held, holds_members, holds_payloads}
use Rattle.author.proofs.TooLongFacts.{told_envelope, told_limit}
use Rattle.author.proofs.made_envelope.make.Goals as goal

pub returns-in-Some-clause-every_envelope : goal.returns-in-Some-clause-every_envelope
returns-in-Some-clause-every_envelope c =
    told_envelope (value_of c.args.description.now) c.args.files.now c.args.key.now c.in-Some.limit (rw c.in-Some.is at c.in_ok-limit.ensures.told)

pub returns-in-Some-clause-every_limit : goal.returns-in-Some-clause-every_limit
returns-in-Some-clause-every_limit c = told_limit (value_of c.args.description.now) c.args.files.now c.args.key.now c.in-Some.limit (rw c.in-Some.is at c.in_ok-limit.ensures.told)

pub returns-clause-ok : goal.returns-clause-ok
returns-clause-ok c = made_ok (value_of c.args.description.now) c.args.files.now c.args.key.now c.in_ok-said.said c.in_ok-said.ensures c.in_ok-parts.parts c.in_ok-parted.parted c.encode_short.result c.in_ok-parted.ensures.is c.in_ok-parts.ensures.is c.encode_short.ensures.answers

pub returns-clause-refused : goal.returns-clause-refused
returns-clause-refused c = made_refused (value_of c.args.description.now) c.args.files.now c.args.key.now c.in_ok-said.said c.in_ok-said.ensures c.in_ok-parts.parts c.in_ok-parted.parted c.encode_short.result c.in_ok-parted.ensures.is c.in_ok-parts.ensures.is c.encode_short.ensures.answers

pub returns-clause-every_envelope : goal.returns-clause-every_envelope
returns-clause-every_envelope c = made_envelope (value_of c.args.description.now) c.args.files.now c.args.key.now c.in_ok-said.said c.in_ok-said.ensures c.in_ok-parts.parts c.in_ok-parted.parted c.encode_short.result c.in_ok-parted.ensures.is c.in_ok-parts.ensures.is c.encode_short.ensures.answers

pub returns-clause-every_limit : goal.returns-clause-every_limit
returns-clause-every_limit c =
    made_limit (value_of c.args.description.now) c.args.files.now c.args.key.now c.in_ok-said.said c.in_ok-said.ensures c.in_ok-parts.parts c.in_ok-parted.parted c.encode_short.result c.in_ok-parted.ensures.is c.in_ok-parts.ensures.is c.encode_short.ensures.answers

pub returns-clause-parts : goal.returns-clause-parts
returns-clause-parts c =
    let d = value_of c.args.description.now in
    IfOk-weaker c.encode_short.result _ (HoldsPartsOf d c.args.files.now c.args.key.now)
    (λ bytes e. holds_parts d c.args.files.now c.args.key.now bytes c.in_ok-said.said c.in_ok-parts.parts c.in_ok-parted.parted e.0 c.in_ok-said.ensures c.in_ok-parted.ensures.is c.in_ok-parts.ensures.is e.1.0 e.1.1) c.encode_short.ensures.says

pub returns-clause-authentic : goal.returns-clause-authentic
returns-clause-authentic c =
    IfOk-weaker c.encode_short.result _ (IsAuthenticUnder c.args.key.now)
    (λ bytes e. authentic_made c.args.key.now bytes c.in_ok-parts.parts e.0 e.1.0 e.1.1 c.in_ok-parts.ensures.one_block) c.encode_short.ensures.says

pub returns-clause-manifest : goal.returns-clause-manifest
returns-clause-manifest c =
    let d = value_of c.args.description.now in
    IfOk-weaker c.encode_short.result _ (HoldsManifestOf d c.args.files.now)
    (λ bytes e.
    holds_manifest d c.args.files.now bytes c.in_ok-said.said c.in_ok-parted.parted e.0 c.in_ok-said.ensures c.in_ok-parted.ensures.is e.1.0
    (manifest_said c.description_laws.ensures d c.args.files.now c.in_ok-said.said c.in_ok-parts.parts c.in_ok-parted.parted e.0 c.args.description.now.accepted c.in_ok-said.ensures c.in_ok-parted.ensures.is
    c.in_ok-parts.ensures.fits c.in_ok-parts.ensures.written e.1.1)) c.encode_short.ensures.says

pub returns-clause-members : goal.returns-clause-members
returns-clause-members c =
    let d = value_of c.args.description.now in
    let beside : StandBeside = record { here = λ kind s. (refl, refl); empty = refl; digest = λ x. refl; own = λ m. refl; text = λ kind x. (refl, refl); no_text = refl; text_digest = λ x. refl; own_text = λ t. refl } in
    IfOk-weaker c.encode_short.result _ (HoldsMembersOf d c.args.files.now)
    (λ bytes e.
    holds_members d c.args.files.now bytes c.in_ok-said.said e.0 c.in_ok-said.ensures e.1.0
    (severed_held beside c.description_laws.ensures d c.args.files.now c.args.key.now c.in_ok-said.said c.in_ok-parts.parts c.in_ok-parted.parted e.0 c.args.description.now.accepted c.in_ok-said.ensures c.in_ok-parted.ensures.is
    c.in_ok-parts.ensures.is c.in_ok-parted.ensures.written e.1.1)) c.encode_short.ensures.says

pub returns-clause-payloads : goal.returns-clause-payloads
returns-clause-payloads c =
    let d = value_of c.args.description.now in
    let same : c.in_ok-parts.parts.payloads ≡ c.in_ok-said.said.payloads = ap (λ (x : EnvelopeParts). x.payloads) c.in_ok-parts.ensures.is ∙ ap (λ (x : Parted). x.payloads) c.in_ok-parted.ensures.is in
    IfOk-weaker c.encode_short.result _ (HoldsPayloadsOf d c.args.files.now) (λ bytes e. holds_payloads d c.args.files.now bytes c.in_ok-said.said c.in_ok-parts.parts.payloads c.in_ok-said.ensures same e) c.encode_short.ensures.payloads

pub returns-clause-as_given : goal.returns-clause-as_given
returns-clause-as_given c = λ once.
    let d = value_of c.args.description.now in
    let beside : StandBeside = record { here = λ kind s. (refl, refl); empty = refl; digest = λ x. refl; own = λ m. refl; text = λ kind x. (refl, refl); no_text = refl; text_digest = λ x. refl; own_text = λ t. refl } in
    let same : c.in_ok-parts.parts.payloads ≡ c.in_ok-said.said.payloads = ap (λ (x : EnvelopeParts). x.payloads) c.in_ok-parts.ensures.is ∙ ap (λ (x : Parted). x.payloads) c.in_ok-parted.ensures.is in
    given_ok d c.args.files.now c.in_ok-said.said (c.description_laws.ensures.parts d c.args.files.now c.in_ok-said.said once c.in_ok-said.ensures) c.in_ok-parts.parts c.in_ok-parted.parted
    (ap (λ (x : Parted). x.manifest) c.in_ok-parted.ensures.is) same
    (λ said e. severed_held beside c.description_laws.ensures d c.args.files.now c.args.key.now c.in_ok-said.said c.in_ok-parts.parts c.in_ok-parted.parted said c.args.description.now.accepted c.in_ok-said.ensures c.in_ok-parted.ensures.is
    c.in_ok-parts.ensures.is c.in_ok-parted.ensures.written e)
    (λ said e. manifest_said c.description_laws.ensures d c.args.files.now c.in_ok-said.said c.in_ok-parts.parts c.in_ok-parted.parted said c.args.description.now.accepted c.in_ok-said.ensures c.in_ok-parted.ensures.is
    c.in_ok-parts.ensures.fits c.in_ok-parts.ensures.written e)
    (subst (λ (x : Parted). HasBlockBy x.mac x.algorithm c.in_ok-parts.parts.wrapper c.in_ok-parts.parts.manifest) c.in_ok-parted.ensures.is c.in_ok-parts.ensures.by_mac)
    c.encode_short.result c.encode_short.ensures.says c.encode_short.ensures.payloads
