use Rattle.std.specs.Prelude.{option_map}
use Rattle.det_cbor.specs.ItemSkipping.{skip_at}
use Rattle.det_cbor.proofs.Skipping.{skips_step, pair_skips_step}
use Rattle.det_cbor.proofs.skip.+skip.Goals as goal

pub skip_items-loop-preserved : goal.skip_items-loop-preserved
skip_items-loop-preserved t c = skips_step (skip_at c.args.levels) c.args.count c.loop.counter c.loop.rest.now c.in_ok-rest.rest.now _ c.loop-test.true c.in_ok-rest.ensures c.loop.invariant

pub skip_pairs-loop-preserved : goal.skip_pairs-loop-preserved
skip_pairs-loop-preserved t c =
    pair_skips_step (skip_at c.args.levels) (option_map (λ b. b.now) c.loop.before) c.args.count c.loop.counter c.loop.rest.now c.read_before-key.result.now c.in_ok-after.after.now c.in_ok-rest.rest.now _ c.loop-test.true c.in_ok-after.ensures c.read_before-key.ensures c.in_ok-order.ensures c.in_ok-rest.ensures c.loop.invariant
