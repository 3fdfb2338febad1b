use Rattle.suit_cli.proofs.RunLawProofs as proofs
use Rattle.suit_cli.proofs.law.run_laws.Goals as goal

pub returns : goal.returns
returns c =
    proofs.run_laws c.record_laws.ensures.some c.envelope_laws.ensures c.manifest_laws.ensures c.members_laws.ensures
