use Rattle.std.proofs.Common.{sym}
use Rattle.suit_commands.proofs.ReadingSteps.{indices_step}
use Rattle.suit_commands.proofs.argument.read_indices.Goals as goal

pub loop-preserved : goal.loop-preserved
loop-preserved c =
    rw c.in_ok-push.ensures.ok
    (indices_step c.args.scope.count c.args.list c.loop.indices c.args.elements c.loop.counter c.loop.cursor c.read_element.new.cursor c.in_ok-index.index _ c.loop-test.true (sym c.in_ok-index.ensures) c.loop.invariant)
