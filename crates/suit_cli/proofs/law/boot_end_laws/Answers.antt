use Rattle.suit_cli.proofs.BootLawProofs as proofs
use Rattle.suit_cli.proofs.law.boot_end_laws.Goals as goal

pub returns : goal.returns
returns c = proofs.boot_end_laws c.config_laws.ensures.answer c.record_laws.ensures.answer c.boot_laws.ensures
