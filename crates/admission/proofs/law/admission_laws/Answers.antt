use Rattle.admission.proofs.OneAdmission.{admitting_laws}
use Rattle.admission.proofs.Judgements.{judging_laws}
use Rattle.admission.proofs.OneOpening.{opening_laws}
use Rattle.admission.proofs.OneStart.{starting_laws}
use Rattle.admission.proofs.law.admission_laws.Goals as goal

pub returns : goal.returns
returns c = record {
  opening = opening_laws c.envelope_laws.ensures c.manifest_laws.ensures;
  judging = judging_laws c.safety_laws.ensures.refutes;
  admitting = admitting_laws c.envelope_laws.ensures c.authenticity_laws.ensures c.manifest_laws.ensures c.members_laws.ensures c.safety_laws.ensures.refutes;
  starting = starting_laws c.envelope_laws.ensures c.authenticity_laws.ensures c.manifest_laws.ensures;
}
