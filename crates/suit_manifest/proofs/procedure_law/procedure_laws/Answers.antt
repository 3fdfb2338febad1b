use Rattle.suit_manifest.proofs.ProcedureSteps.{procedure_laws}
use Rattle.suit_manifest.proofs.procedure_law.procedure_laws.Goals as goal

pub returns : goal.returns
returns c = procedure_laws c.sequence_laws.ensures
