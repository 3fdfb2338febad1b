use Rattle.suit_cli.proofs.CommandLawProofs as proofs
use Rattle.suit_cli.proofs.law.show_laws.Goals as goal

pub returns : goal.returns
returns c = proofs.show_laws c.envelope_laws.ensures c.manifest_laws.ensures
