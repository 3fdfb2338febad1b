use Rattle.std.proofs.Common.{refl, subst}
use Rattle.suit_envelope.specs.Said.{said_by}
use Rattle.admission.specs.declared.refusal.NotAdmitted.{NotAdmitted}
use Rattle.suit_cli.specs.declared.reply.Stop.TheVariants as stops
use Rattle.suit_cli.specs.Refusals.{StopsAs}
use Rattle.suit_cli.proofs.Chains.{anywhere, ends_there}
use Rattle.suit_cli.proofs.Refused.{judges_safe, judging_stops}
use Rattle.suit_cli.proofs.check.judge_manifest.Goals as goal

pub returns-in_err-members : goal.returns-in_err-members
returns-in_err-members c here = ends_there _ _ here here c.from_residual.result c.in_err-members.field-0.0 c.from_residual.ensures.1 (c.in_err-members.ensures here)

pub judge-requires-clause-update : goal.judge-requires-clause-update
judge-requires-clause-update c =
    let manifest = c.requires.manifest in
    c.procedure_laws.ensures.update _ manifest.item (said_by c.args.file.now.envelope) c.args.file.now.manifest c.in_ok-members.members manifest.says_so (c.in_ok-members.ensures anywhere).1

pub judge-requires-clause-invocation : goal.judge-requires-clause-invocation
judge-requires-clause-invocation c =
    let manifest = c.requires.manifest in
    c.procedure_laws.ensures.invocation _ manifest.item c.args.file.now.manifest manifest.says_so

pub returns-in-Err : goal.returns-in-Err
returns-in-Err c here =
    judging_stops (said_by c.args.file.now.envelope) c.args.file.now.manifest c.in_ok-members.members (c.in_ok-members.ensures anywhere).1 here c.in-Err.refusal c.refusal_stop.result
    c.in-Err.ensures.refused (subst (λ (r : NotAdmitted). StopsAs r c.refusal_stop.result) c.from.ensures c.refusal_stop.ensures)

pub returns-in_err-fixed : goal.returns-in_err-fixed
returns-in_err-fixed c here = ends_there _ _ here here c.from_residual-in_err-fixed.result stops.NoMemory c.from_residual-in_err-fixed.ensures.1 refl

pub returns : goal.returns
returns c here =
    judges_safe (said_by c.args.file.now.envelope) c.args.file.now.manifest c.in_ok-members.members (c.in_ok-members.ensures anywhere).1 here (c.in-Ok.ensures.safe refl) c.in_ok-fixed.field-0
    c.in_ok-fixed.ensures
