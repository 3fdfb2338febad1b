use Rattle.std.proofs.Common.{◌≡◌, ◌<◌, drop}
use Rattle.std.specs.List.{AllByRecursion}
use Rattle.suit_commands.specs.Bits.{listed_bits}
use Rattle.suit_commands.proofs.reach.listed_bits.Given as goal

abbrev pub invariant-loop-component : goal.invariant-loop-component
invariant-loop-component l = record {
  small : AllByRecursion (λ i. i < 8) (drop l.component-index l.component-items);
  bits : listed_bits (drop l.component-index l.component-items) l.bits ≡ listed_bits l.indices 0;
}
