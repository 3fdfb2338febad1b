use Rattle.suit_envelope.specs.Said.{said_by}
use Rattle.suit_manifest.proofs.BothMembers.{every_members, every_fault}
use Rattle.suit_manifest.proofs.members.members_of.Goals as goal

pub returns-clause-every_members : goal.returns-clause-every_members
returns-clause-every_members c = every_members (said_by c.args.envelope.now) c.args.manifest.now c.both.result c.both.ensures.ok c.both.ensures.refused

pub returns-clause-every_fault : goal.returns-clause-every_fault
returns-clause-every_fault c = every_fault (said_by c.args.envelope.now) c.args.manifest.now c.both.result c.both.ensures.ok c.both.ensures.refused
