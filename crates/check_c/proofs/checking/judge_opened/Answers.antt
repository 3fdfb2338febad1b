use Rattle.suit_envelope.specs.Said.{said_by}
use Rattle.check_c.proofs.Answered.{not_run_answered, not_taken_answered, not_taken_once}
use Rattle.check_c.proofs.Refused.{member_refused}
use Rattle.check_c.proofs.checking.judge_opened.Goals as goal

pub judge-requires-clause-update : goal.judge-requires-clause-update
judge-requires-clause-update c =
    let manifest = c.requires.manifest in
    c.procedure_laws.ensures.update _ manifest.item (said_by c.args.file.now.envelope) c.args.file.now.manifest c.in-Ok.members manifest.says_so c.in-Ok.ensures.ok

pub judge-requires-clause-invocation : goal.judge-requires-clause-invocation
judge-requires-clause-invocation c =
    let manifest = c.requires.manifest in
    c.procedure_laws.ensures.invocation _ manifest.item c.args.file.now.manifest manifest.says_so

pub returns-in-Err-clause-refused : goal.returns-in-Err-clause-refused
returns-in-Err-clause-refused c told = member_refused (said_by c.args.file.now.envelope) c.args.file.now.manifest c.in-Err.fault _ (c.not_taken.ensures.refused told) c.in-Err.ensures.refused

pub returns-in-Err-clause-answers : goal.returns-in-Err-clause-answers
returns-in-Err-clause-answers c = not_taken_answered (said_by c.args.file.now.envelope) c.args.file.now.manifest c.in-Err.fault _ c.not_taken.ensures.told c.in-Err.ensures.refused

pub returns-in-Err-clause-every_fault : goal.returns-in-Err-clause-every_fault
returns-in-Err-clause-every_fault c fault lacks = not_taken_once c.in-Err.fault fault _ c.not_taken.ensures.told (c.in-Err.ensures.every_fault fault lacks)

pub returns-in-Ok-judge-clause-every_fault : goal.returns-in-Ok-judge-clause-every_fault
returns-in-Ok-judge-clause-every_fault c fault lacks = absurd (c.in-Ok.ensures.every_fault fault lacks)

pub returns-in-Err-judge-clause-answers : goal.returns-in-Err-judge-clause-answers
returns-in-Err-judge-clause-answers c = not_run_answered (said_by c.args.file.now.envelope) c.args.file.now.manifest c.in-Ok.members c.in-Err-judge.refusal _ c.in-Ok.ensures.ok c.not_safe.ensures c.in-Err-judge.ensures.refused

pub returns-in-Err-judge-clause-every_fault : goal.returns-in-Err-judge-clause-every_fault
returns-in-Err-judge-clause-every_fault c fault lacks = absurd (c.in-Ok.ensures.every_fault fault lacks)
