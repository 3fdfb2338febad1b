use Rattle.suit_cli.proofs.MakeLawProofs as proofs
use Rattle.suit_cli.proofs.law.make_laws.Goals as goal

pub returns : goal.returns
returns c = proofs.make_laws
