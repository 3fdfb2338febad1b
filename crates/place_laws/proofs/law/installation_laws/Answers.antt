use Rattle.place_laws.proofs.Installable.{installation_laws}
use Rattle.place_laws.proofs.law.installation_laws.Goals as goal

pub returns : goal.returns
returns c = installation_laws c.envelope_laws.ensures
