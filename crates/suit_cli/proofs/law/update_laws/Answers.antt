use Rattle.suit_cli.proofs.UpdateLawProofs.{update_laws}
use Rattle.suit_cli.proofs.law.update_laws.Goals as goal

pub returns : goal.returns
returns c = update_laws c.config_laws.ensures.answer c.admission_laws.ensures.admitting
