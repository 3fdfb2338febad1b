use Rattle.suit_cursor.proofs.Passed.{pair_ok, pair_step}
use Rattle.suit_cursor.proofs.passing.pass_pairs.Goals as goal

pub pass_pair-requires : goal.pass_pair-requires
pass_pair-requires c = pair_ok c.args.pairs c.loop.counter c.loop.map _ c.loop-test.true c.loop.invariant c.requires

pub loop-preserved : goal.loop-preserved
loop-preserved c = pair_step c.args.pairs c.loop.counter c.loop.map c.pass_pair.new.map _ c.loop-test.true c.pass_pair.ensures c.loop.invariant
