use Rattle.std.proofs.Common.{sym, subst}
use Rattle.suit_envelope.specs.Said.{said_by}
use Rattle.suit_manifest.specs.declared.manifest.Manifest.{Manifest}
use Rattle.suit_manifest.specs.MembersApart.{LacksMembers}
use Rattle.describe.proofs.held_members.members_there.Goals as goal

pub returns-in-Ok-clause-every_fault : goal.returns-in-Ok-clause-every_fault
returns-in-Ok-clause-every_fault c fault lacks =
    c.members_of.ensures.every_fault fault (subst (λ (m : Manifest). LacksMembers (said_by c.args.envelope.now) m fault) (sym c.in-Ok.ensures) lacks)
