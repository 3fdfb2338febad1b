use Rattle.suit_cli.proofs.MigrateLawProofs as proofs
use Rattle.suit_cli.proofs.law.migrate_laws.Goals as goal

pub returns : goal.returns
returns c = proofs.migrate_laws c.config_laws.ensures.answer
