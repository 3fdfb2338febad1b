use Rattle.path_model.proofs.Keeping.{keeping_laws}
use Rattle.path_model.proofs.resume_law.keeping_laws.Goals as goal

pub returns : goal.returns
returns c = keeping_laws
