use Rattle.std.proofs.Common.{◌≡◌, ◌++◌, take, drop}
use Rattle.author.specs.ParamValues.{placed_among}
use Rattle.author.proofs.param_fields.place_of.Given as goal

-- the parameters so far stand before the one that is put
abbrev pub invariant-loop-i : goal.invariant-loop-i
invariant-loop-i l = placed_among l.param l.list ≡ take l.i l.list ++ placed_among l.param (drop l.i l.list)
