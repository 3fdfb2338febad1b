use Rattle.std.proofs.Common.{◌≡◌, drop}
use Rattle.suit_params.specs.InForce.{overridden}
use Rattle.suit_params.proofs.params.Params.set_each.Given as goal

-- setting the rest of the list gives the whole override
abbrev pub invariant-loop-param : goal.invariant-loop-param
invariant-loop-param l = overridden l.self l.component (drop l.param-index l.param-items) ≡ overridden l.fn.self l.component l.param-items
