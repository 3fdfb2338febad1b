use Rattle.rollback_record.proofs.Installed.{installed}
use Rattle.rollback_record.proofs.sound_law.installed_laws.Goals as goal

pub returns : goal.returns
returns c = installed c.envelope_laws.ensures c.manifest_laws.ensures
