use Rattle.std.proofs.Common.{◌≡◌, ◌++◌, drop}
use Rattle.std.specs.List.{AllByRecursion}
use Rattle.det_cbor.specs.DataItem.{spell_pairs}
use Rattle.det_cbor.specs.Prefix.{IsPrefix}
use Rattle.suit_params.specs.ParamMaking.{param_pairs, IsParam}
use Rattle.suit_params.proofs.param_writing.push_params.Given as goal

-- the bytes written so far and the spelling of the rest are the whole spelling, and the rest decides
abbrev pub invariant-loop-param : goal.invariant-loop-param
invariant-loop-param l =
    (l.out ++ spell_pairs (param_pairs (drop l.param-index l.param-items)) ≡ l.fn.out ++ spell_pairs (param_pairs l.param-items))
    × (AllByRecursion IsParam (drop l.param-index l.param-items) → AllByRecursion IsParam l.param-items)
    × IsPrefix l.fn.out l.out
