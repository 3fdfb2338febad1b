use Rattle.path_model.proofs.RunLaws.{sequence_rules}
use Rattle.path_model.proofs.law.sequence_laws.Goals as goal

pub returns : goal.returns
returns c = sequence_rules
