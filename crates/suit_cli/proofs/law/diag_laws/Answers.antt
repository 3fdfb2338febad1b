use Rattle.suit_cli.proofs.DiagLawProofs as proofs
use Rattle.suit_cli.proofs.law.diag_laws.Goals as goal

pub returns : goal.returns
returns c = proofs.diag_laws c.notation_laws.ensures c.envelope_laws.ensures c.manifest_laws.ensures c.members_laws.ensures
