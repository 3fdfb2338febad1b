use Rattle.std.proofs.Common.{map, option_map}
use Rattle.suit_envelope.specs.PayloadListing.{said_payload}
use Rattle.suit_envelope.proofs.PayloadsListed.{listed_step, listed_refused}
use Rattle.suit_envelope.proofs.listing.listed.Goals as goal

pub returns-in-Err : goal.returns-in-Err
returns-in-Err c =
    listed_refused c.args.count c.loop.counter c.loop.pairs c.in-Err.field-0 (map said_payload c.loop.list.items) _ c.loop-test.true c.in-Err.ensures c.loop.invariant

pub loop-preserved : goal.loop-preserved
loop-preserved c =
    listed_step c.args.count c.loop.counter c.loop.pairs c.pair.new.map (map said_payload c.loop.list.items) (map said_payload c.add.new.list.items) _ (option_map said_payload c.in-Ok.found)
    c.loop-test.true c.in-Ok.ensures (λ more. c.in_ok-add.ensures more) c.loop.invariant
