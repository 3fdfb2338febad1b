use Rattle.det_cbor.proofs.OneReadingLaw.{one_reading_law}
use Rattle.det_cbor.proofs.law.reading_laws.Goals as goal

pub returns : goal.returns
returns c = one_reading_law
