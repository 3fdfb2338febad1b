use Rattle.completeness.proofs.Laws.{completeness_laws}
use Rattle.completeness.proofs.law.completeness_laws.Goals as goal

pub returns : goal.returns
returns c = completeness_laws c.config_laws.ensures.answer c.record_laws.ensures.answer c.record_laws.ensures.some c.envelope_laws.ensures c.manifest_laws.ensures c.members_laws.ensures c.boot_laws.ensures
    c.update_laws.ensures c.migrate_laws.ensures c.soundness_laws.ensures
