use Rattle.path_model.proofs.RecalledSafety.{recalled_safety}
use Rattle.path_model.proofs.resume_law.recalled_safety_laws.Goals as goal

pub returns : goal.returns
returns c = recalled_safety
