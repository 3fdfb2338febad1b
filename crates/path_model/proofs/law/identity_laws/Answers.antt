use Rattle.path_model.proofs.PathLaws.{identities_bounded}
use Rattle.path_model.proofs.law.identity_laws.Goals as goal

pub returns : goal.returns
returns c = identities_bounded
