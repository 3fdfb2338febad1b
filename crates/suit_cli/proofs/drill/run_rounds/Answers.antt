use Rattle.std.proofs.Common.{arith}
use Rattle.suit_cli.proofs.DrillLoop.{counts_more, drilled_none, drilled_then, drills_to}
use Rattle.suit_cli.proofs.drill.run_rounds.Goals as goal

pub loop-done-init : goal.loop-done-init
loop-done-init c =
    drilled_none c.args.number c.in_ok-flash.flash c.in_ok-flash.ensures.first c.in_ok-flash.ensures.ready _ c.new-draw.ensures _ c.new-tally.ensures c.args.launcher.now.launches c.requires

pub count-requires : goal.count-requires
count-requires c = counts_more c.args.number _ _ _ _ _ c.loop-done.invariant (omega (arith, c.loop-done-test.true))

pub loop-done-preserved : goal.loop-done-preserved
loop-done-preserved c =
    drilled_then c.args.number _ _ _ _ _ c.loop-done.invariant _ c.in_ok-left.left _ c.in_ok-left.end c.in_ok-left.ensures.runs c.in_ok-left.ensures.ready _ c.count.ensures

pub returns : goal.returns
returns c = drills_to c.args.number _ _ _ _ _ c.loop-done.invariant (omega (arith, c.loop-done-test.false))
