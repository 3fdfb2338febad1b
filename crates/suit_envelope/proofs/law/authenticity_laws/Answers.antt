use Rattle.suit_envelope.proofs.OneAuthenticity.{one_authenticity}
use Rattle.suit_envelope.proofs.law.authenticity_laws.Goals as goal

pub returns : goal.returns
returns c = one_authenticity
