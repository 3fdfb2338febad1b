use Rattle.admission.proofs.Exact.{not_startable_exactly, startable_exactly}
use Rattle.admission.proofs.starting.startable.Goals as goal

pub returns-clause-every_startable : goal.returns-clause-every_startable
returns-clause-every_startable c =
    startable_exactly c.admission_laws.ensures.starting c.args.layout.now c.args.key.now c.args.bytes.now c.start_bytes.result c.start_bytes.ensures.refused

pub returns-clause-every_refusal : goal.returns-clause-every_refusal
returns-clause-every_refusal c =
    not_startable_exactly c.admission_laws.ensures.starting c.args.layout.now c.args.key.now c.args.bytes.now c.start_bytes.result c.start_bytes.ensures.startable c.start_bytes.ensures.refused
