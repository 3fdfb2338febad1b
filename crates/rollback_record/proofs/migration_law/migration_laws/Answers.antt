use Rattle.rollback_record.proofs.AlikeSound.{alike_follows, alike_sound}
use Rattle.rollback_record.proofs.migration_law.migration_laws.Goals as goal

pub returns : goal.returns
returns c = record { sound = alike_sound c.config_laws.ensures.answer; follows = alike_follows }
