use Rattle.std.proofs.Common.{refl}
use Rattle.std.proofs.lemmas.Result.{err_from_is_err_and}
use Rattle.suit_envelope.specs.Said.{said_by}
use Rattle.admission.proofs.Refusing.{component_not_admitted, manifest_not_admitted, members_not_admitted, procedures_not_admitted}
use Rattle.admission.proofs.admitting.admit_bytes.Goals as goal

pub returns-in_err-manifest-clause-refused : goal.returns-in_err-manifest-clause-refused
returns-in_err-manifest-clause-refused c =
    let p = err_from_is_err_and c.from_residual-in_err-manifest.result c.from_residual-in_err-manifest.ensures.1 in
    rw (p.1, p.2) (manifest_not_admitted c.args.limit c.args.layout.now c.args.key.now c.args.bytes.now (said_by c.in_ok-envelope.envelope)
    (record { within = c.in_ok-envelope.ensures.within; authentic = c.in_ok-authenticated.ensures.authentic refl })
    c.in_err-manifest.field-0.0 c.in_err-manifest.ensures.refused)

pub returns-in_err-places-clause-refused : goal.returns-in_err-places-clause-refused
returns-in_err-places-clause-refused c =
    let p = err_from_is_err_and c.from_residual-in_err-places.result c.from_residual-in_err-places.ensures.1 in
    rw (p.1, p.2) (λ some. component_not_admitted c.args.limit c.args.layout.now c.args.key.now c.args.bytes.now (said_by c.in_ok-envelope.envelope) c.in_ok-manifest.manifest
    (record { are_authentic = record { within = c.in_ok-envelope.ensures.within; authentic = c.in_ok-authenticated.ensures.authentic refl }; says = c.in_ok-manifest.ensures.says })
    c.in_err-places.field-0.0.component c.in_err-places.ensures.unknown)

pub returns-in_err-members-clause-refused : goal.returns-in_err-members-clause-refused
returns-in_err-members-clause-refused c =
    let p = err_from_is_err_and c.from_residual-in_err-members.result c.from_residual-in_err-members.ensures.1 in
    rw (p.1, p.2) (members_not_admitted c.args.limit c.args.layout.now c.args.key.now c.args.bytes.now (said_by c.in_ok-envelope.envelope) c.in_ok-manifest.manifest c.in_ok-places.places
    (record { are_authentic = record { within = c.in_ok-envelope.ensures.within; authentic = c.in_ok-authenticated.ensures.authentic refl }; says = c.in_ok-manifest.ensures.says })
    c.in_ok-places.ensures.ok c.in_err-members.field-0.0 c.in_err-members.ensures.refused)

pub judge_both-requires-clause-update : goal.judge_both-requires-clause-update
judge_both-requires-clause-update c =
    let says = c.in_ok-manifest.ensures.says in
    c.procedure_laws.ensures.update _ says.item (said_by c.in_ok-envelope.envelope) c.in_ok-manifest.manifest c.in_ok-members.members says.says_so c.in_ok-members.ensures.ok

pub judge_both-requires-clause-invocation : goal.judge_both-requires-clause-invocation
judge_both-requires-clause-invocation c =
    let says = c.in_ok-manifest.ensures.says in
    c.procedure_laws.ensures.invocation _ says.item c.in_ok-manifest.manifest says.says_so

pub returns-in_err-judge_both-clause-refused : goal.returns-in_err-judge_both-clause-refused
returns-in_err-judge_both-clause-refused c =
    let p = err_from_is_err_and c.from_residual-in_err-judge_both.result c.from_residual-in_err-judge_both.ensures.1 in
    rw (p.1, p.2) (procedures_not_admitted c.args.limit c.args.layout.now c.args.key.now c.args.bytes.now
    (record { said = said_by c.in_ok-envelope.envelope; manifest = c.in_ok-manifest.manifest; places = c.in_ok-places.places; members = c.in_ok-members.members })
    (record {
      offered = record { are_authentic = record { within = c.in_ok-envelope.ensures.within; authentic = c.in_ok-authenticated.ensures.authentic refl }; says = c.in_ok-manifest.ensures.says };
      placed = c.in_ok-places.ensures.ok;
      members = c.in_ok-members.ensures.ok;
    }) c.in_err-judge_both.field-0.0 c.in_err-judge_both.ensures.refused)
