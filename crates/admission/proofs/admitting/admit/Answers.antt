use Rattle.admission.proofs.Exact.{admitted_exactly, not_admitted_exactly}
use Rattle.admission.proofs.admitting.admit.Goals as goal

pub returns-clause-every_admission : goal.returns-clause-every_admission
returns-clause-every_admission c =
    admitted_exactly c.admission_laws.ensures.admitting c.args.limit c.args.layout.now c.args.key.now c.args.bytes.now c.admit_bytes.result c.admit_bytes.ensures.refused

pub returns-clause-every_refusal : goal.returns-clause-every_refusal
returns-clause-every_refusal c =
    not_admitted_exactly c.admission_laws.ensures.admitting c.args.limit c.args.layout.now c.args.key.now c.args.bytes.now c.admit_bytes.result c.admit_bytes.ensures.admitted c.admit_bytes.ensures.refused
