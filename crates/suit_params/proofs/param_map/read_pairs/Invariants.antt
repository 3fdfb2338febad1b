use Rattle.std.proofs.Common.{◌≡◌, ◌-◌}
use Rattle.suit_params.specs.ParamReading.{params_from}
use Rattle.suit_params.proofs.ParamSteps.{with_front}
use Rattle.suit_params.proofs.param_map.read_pairs.Given as goal

-- what is still to be read decides the answer
abbrev pub invariant-loop : goal.invariant-loop
invariant-loop l = with_front l.list (params_from l.count (l.pairs - l.counter) l.map) ≡ params_from l.count l.pairs l.fn.map
