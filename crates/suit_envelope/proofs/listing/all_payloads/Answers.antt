use Rattle.std.proofs.Common.{map}
use Rattle.std.proofs.lemmas.Result.{IfOk-weaker}
use Rattle.suit_envelope.specs.PayloadListing.{said_payload}
use Rattle.suit_envelope.proofs.PayloadsListed.{are_listed}
use Rattle.suit_envelope.proofs.listing.all_payloads.Goals as goal

pub returns : goal.returns
returns c =
    IfOk-weaker c.listed_in.result _ _ (λ list is payloads has. are_listed c.args.envelope.now.whole.now (map said_payload list.items) payloads is has) c.listed_in.ensures
