use Rattle.suit_cli.proofs.DescribingLawProofs as proofs
use Rattle.suit_cli.proofs.law.describing_laws.Goals as goal

pub returns : goal.returns
returns c = proofs.describing_laws c.envelope_laws.ensures c.manifest_laws.ensures c.members_laws.ensures
