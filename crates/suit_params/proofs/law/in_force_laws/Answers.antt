use Rattle.suit_params.proofs.InForceLawProofs.{in_force_laws}
use Rattle.suit_params.proofs.law.in_force_laws.Goals as goal

pub returns : goal.returns
returns c = in_force_laws
