use Rattle.std.proofs.Common.{sym}
use Rattle.suit_params.specs.ParamSlices.{param_of}
use Rattle.suit_params.proofs.Judged.{judged_step}
use Rattle.suit_params.proofs.param_judging.judge_pairs.Goals as goal

pub loop-preserved : goal.loop-preserved
loop-preserved c =
    judged_step c.args.count c.args.pairs c.loop.counter c.loop.map c.lend_param.new.map (param_of c.in-Ok.field-0) _ c.loop-test.true (sym c.in-Ok.ensures) c.loop.invariant
