use Rattle.suit_manifest.proofs.BothMembers.{members_laws}
use Rattle.suit_manifest.proofs.members_law.members_laws.Goals as goal

pub returns : goal.returns
returns c = members_laws c.envelope_laws.ensures
