use Rattle.std.proofs.Common.{arith}
use Rattle.cbor_diag.proofs.Sizes.{item_falls_in, pair_falls_in}
use Rattle.cbor_diag.proofs.printing.+push.Goals as goal

pub push_items-push_item-requires-in-loop-item : goal.push_items-push_item-requires-in-loop-item
push_items-push_item-requires-in-loop-item t c =
    let falls = item_falls_in c.args.items.now c.in-Some.first.now c.in-Some.later.now c.loop-item.item-index c.item-item.result c.in-Some.ensures.cases.0 c.loop-item-test.true c.item-item.is in
    let bound = c.decreases in
    (omega (arith, falls, bound), tt)

pub push_pairs-push_pair-requires-in-loop-pair : goal.push_pairs-push_pair-requires-in-loop-pair
push_pairs-push_pair-requires-in-loop-pair t c =
    let falls = pair_falls_in c.args.pairs.now c.in-Some.first.now c.in-Some.later.now c.loop-pair.pair-index c.pair-item.result c.in-Some.ensures.cases.0 c.loop-pair-test.true c.pair-item.is in
    let bound = c.decreases in
    (omega (arith, falls, bound), tt)
