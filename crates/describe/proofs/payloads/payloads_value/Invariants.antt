use Rattle.std.proofs.Common.{◌≡◌, map, drop}
use Rattle.serde_json.specs.Data.{no_members}
use Rattle.serde_json.specs.View.{members_view}
use Rattle.suit_envelope.specs.PayloadListing.{said_payload}
use Rattle.describe.specs.PayloadData.{with_payloads}
use Rattle.describe.proofs.payloads.payloads_value.Given as goal

abbrev pub invariant-loop-payload : goal.invariant-loop-payload
invariant-loop-payload l =
    with_payloads (map said_payload (drop l.payload-index l.payloads)) (members_view l.object.entries) ≡ with_payloads (map said_payload l.payloads) no_members
