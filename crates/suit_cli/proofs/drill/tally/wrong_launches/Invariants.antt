use Rattle.std.proofs.Common.{◌≡◌, take}
use Rattle.suit_cli.specs.Drilling.{wrong_in}
use Rattle.suit_cli.proofs.drill.tally.wrong_launches.Given as goal

abbrev pub invariant-loop-launch : goal.invariant-loop-launch
invariant-loop-launch l = l.wrong ≡ wrong_in (take l.launch-index l.launches)
