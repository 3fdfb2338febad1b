use Rattle.admission.proofs.Exact.{not_opened_exactly, opened_exactly}
use Rattle.admission.proofs.opening.open.Goals as goal

pub returns-clause-every_opened : goal.returns-clause-every_opened
returns-clause-every_opened c = opened_exactly c.admission_laws.ensures.opening c.args.limit c.args.bytes.now c.open_bytes.result c.open_bytes.ensures.refused

pub returns-clause-every_refusal : goal.returns-clause-every_refusal
returns-clause-every_refusal c = not_opened_exactly c.admission_laws.ensures.opening c.args.limit c.args.bytes.now c.open_bytes.result c.open_bytes.ensures.opened c.open_bytes.ensures.refused
