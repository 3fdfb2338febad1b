use Rattle.suit_envelope.specs.Said.{said_by}
use Rattle.suit_cli.proofs.Chains.{members_taken}
use Rattle.suit_cli.proofs.accept.members_in.Goals as goal

pub returns : goal.returns
returns c = members_taken (said_by c.args.file.now.envelope) c.args.file.now.manifest c.members_of.result c.taken.result c.members_of.ensures.ok c.members_of.ensures.refused c.taken.ensures
