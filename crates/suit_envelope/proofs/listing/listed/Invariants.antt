use Rattle.std.proofs.Common.{◌≡◌, ◌-◌, ◌++◌, map}
use Rattle.suit_envelope.specs.PayloadListing.{said_payload, listed_from}
use Rattle.suit_envelope.proofs.listing.listed.Given as goal

abbrev pub invariant-loop : goal.invariant-loop
invariant-loop l = map said_payload l.list.items ++ listed_from (l.count - l.counter) l.pairs ≡ listed_from l.count l.fn.pairs
