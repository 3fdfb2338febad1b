use Rattle.suit_params.proofs.ParamLawProofs.{param_laws}
use Rattle.suit_params.proofs.param_map.param_laws.Goals as goal

pub returns : goal.returns
returns c = param_laws
