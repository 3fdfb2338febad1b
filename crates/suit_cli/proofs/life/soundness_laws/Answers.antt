use Rattle.suit_cli.proofs.LifeLawProofs as proofs
use Rattle.suit_cli.proofs.life.soundness_laws.Goals as goal

pub returns : goal.returns
returns c = proofs.soundness_laws c.config_laws.ensures.answer c.record_laws.ensures.answer c.sound_laws.ensures c.installed_laws.ensures
