use Rattle.suit_cli.proofs.FlashLawProofs as proofs
use Rattle.suit_cli.proofs.law.status_laws.Goals as goal

pub returns : goal.returns
returns c = proofs.status_laws c.config_laws.ensures.answer c.record_laws.ensures.answer
