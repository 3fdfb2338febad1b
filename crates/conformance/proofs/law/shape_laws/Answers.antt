use Rattle.conformance.proofs.ShapesRead.{laws}
use Rattle.conformance.proofs.law.shape_laws.Goals as goal

pub returns : goal.returns
returns c = laws
