use Rattle.suit_envelope.specs.Said.{said_by}
use Rattle.describe.specs.MembersThere.{only_there}
use Rattle.suit_cli.proofs.Chains.{members_taken}
use Rattle.suit_cli.proofs.show_description.there_in.Goals as goal

pub returns : goal.returns
returns c =
    let said = said_by c.args.envelope.now in
    members_taken said (only_there said c.args.manifest.now) c.members_there.result c.taken.result c.members_there.ensures.ok c.members_there.ensures.refused c.taken.ensures
