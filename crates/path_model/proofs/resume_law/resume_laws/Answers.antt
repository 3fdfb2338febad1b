use Rattle.path_model.proofs.ResumeLaws.{resume_laws}
use Rattle.path_model.proofs.resume_law.resume_laws.Goals as goal

pub returns : goal.returns
returns c = resume_laws
