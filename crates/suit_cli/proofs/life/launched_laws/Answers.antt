use Rattle.suit_cli.proofs.LaunchedLawProofs as proofs
use Rattle.suit_cli.proofs.life.launched_laws.Goals as goal

pub returns : goal.returns
returns c = proofs.launched_laws c.config_laws.ensures.answer c.record_laws.ensures.answer c.boot_laws.ensures c.life_laws.ensures
