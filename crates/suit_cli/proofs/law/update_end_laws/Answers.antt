use Rattle.suit_cli.proofs.UpdateEndLawProofs as proofs
use Rattle.suit_cli.proofs.law.update_end_laws.Goals as goal

pub returns : goal.returns
returns c = proofs.update_end_laws c.config_laws.ensures.answer c.envelope_laws.ensures c.manifest_laws.ensures
