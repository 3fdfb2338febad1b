use Rattle.std.proofs.Common.{◌≡◌, ◌-◌}
use Rattle.suit_params.specs.ParamReading.{params_from}
use Rattle.suit_params.proofs.Judged.{judged}
use Rattle.suit_params.proofs.param_judging.judge_pairs.Given as goal

-- what is still to be read decides the answer
abbrev pub invariant-loop : goal.invariant-loop
invariant-loop l = judged (params_from l.count (l.pairs - l.counter) l.map) ≡ judged (params_from l.count l.pairs l.fn.map)
