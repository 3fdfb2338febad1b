use Rattle.suit_cli.proofs.LifeLawProofs as proofs
use Rattle.suit_cli.proofs.life.life_laws.Goals as goal

pub returns : goal.returns
returns c = proofs.life_laws c.config_laws.ensures.answer c.sound_laws.ensures
