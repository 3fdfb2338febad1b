use Rattle.suit_manifest.proofs.ManifestLawProofs.{manifest_laws}
use Rattle.suit_manifest.proofs.law.manifest_laws.Goals as goal

pub returns : goal.returns
returns c = manifest_laws c.sequence_laws.ensures
