use Rattle.std.proofs.Common.{◌≡◌, drop}
use Rattle.std.specs.List.{AllByRecursion}
use Rattle.suit_params.specs.ParamMaking.{IsBelow}
use Rattle.suit_commands.specs.Sources.{list_sources}
use Rattle.suit_commands.proofs.source_walk.list_sources.Given as goal

abbrev pub invariant-loop-param : goal.invariant-loop-param
invariant-loop-param l = record {
  indexed : AllByRecursion (IsBelow l.count) (drop l.param-index l.param-items);
  bits : list_sources (drop l.param-index l.param-items) l.bits ≡ list_sources l.list 0;
}
