use Rattle.suit_cli.proofs.CommandLawProofs as proofs
use Rattle.suit_cli.proofs.law.check_laws.Goals as goal

pub returns : goal.returns
returns c = proofs.check_laws c.envelope_laws.ensures c.manifest_laws.ensures c.members_laws.ensures
