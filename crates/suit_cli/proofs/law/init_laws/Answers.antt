use Rattle.suit_cli.proofs.FlashLawProofs as proofs
use Rattle.suit_cli.proofs.law.init_laws.Goals as goal

pub returns : goal.returns
returns c = proofs.init_laws
