use Rattle.suit_params.proofs.ParamSteps.{params_step}
use Rattle.suit_params.proofs.param_map.read_pairs.Goals as goal

pub loop-preserved : goal.loop-preserved
loop-preserved c =
    rw c.in_ok-push.ensures.ok
    (params_step c.args.count c.loop.list c.args.pairs c.loop.counter c.loop.map c.read_param.new.map c.in_ok-param.param _ c.loop-test.true c.in_ok-param.ensures c.loop.invariant)
