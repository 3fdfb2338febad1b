use Rattle.std.proofs.Common.{◌∙◌, ap, ◌<◌, ◌≤◌, length, arith}
use Rattle.std.proofs.lemmas.List.{length-set}
use Rattle.flash_layout.proofs.Found.{first_unknown, all_placed, one_placed, none_after, other_places}
use Rattle.flash_layout.proofs.placing.places.Goals as goal

pub returns-in-None-clause-unknown : goal.returns-in-None-clause-unknown
returns-in-None-clause-unknown c =
    first_unknown c.as_slice-entries.result.now c.args.layout.now c.as_slice-ids.result.now c.args.components.now c.loop-k.layout_index c.loop-k.k c.index-ids-k.result c.index-ids-k.result
    c.as_slice-entries.ensures c.as_slice-ids.ensures c.loop-k-test.true c.index-ids-k.is c.in-None.ensures c.loop-k.invariant.each

pub loop-k-preserved : goal.loop-k-preserved
loop-k-preserved c =
    let room : c.loop-k.k < length c.loop-k.layout_index = omega (arith, c.loop-k.invariant.long, c.loop-k-test.true, c.requires.components, ap length c.as_slice-ids.ensures) in
    record {
      each = one_placed c.as_slice-entries.result.now c.as_slice-ids.result.now c.loop-k.layout_index c.loop-k.k c.in-Some.i c.index-ids-k.result c.index-ids-k.result c.loop-k-test.true room c.index-ids-k.is c.in-Some.ensures c.loop-k.invariant.each;
      rest = none_after c.loop-k.layout_index c.loop-k.k c.in-Some.i c.loop-k.invariant.rest;
      long = length-set c.loop-k.layout_index c.loop-k.k c.in-Some.i ∙ c.loop-k.invariant.long;
    }

pub returns-clause-ok : goal.returns-clause-ok
returns-clause-ok c =
    let high : c.loop-k.k ≤ length c.as_slice-ids.result.now = omega arith in
    all_placed c.as_slice-entries.result.now c.args.layout.now c.as_slice-ids.result.now c.args.components.now c.loop-k.layout_index c.loop-k.k
    c.as_slice-entries.ensures c.as_slice-ids.ensures c.loop-k-test.false high c.loop-k.invariant.each c.loop-k.invariant.rest

pub returns-clause-other : goal.returns-clause-other
returns-clause-other c = other_places c.args.layout.now c.args.components.now _ (returns-clause-ok c)
