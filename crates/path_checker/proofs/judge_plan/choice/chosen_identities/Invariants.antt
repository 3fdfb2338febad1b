use Rattle.std.proofs.Common.{◌≡◌, take}
use Rattle.path_checker.specs.Choosing.{IsChosen}
use Rattle.path_checker.proofs.judge_plan.choice.chosen_identities.Given as goal

abbrev pub invariant-loop-known : goal.invariant-loop-known
invariant-loop-known l = record {
  whole : l.known-items ≡ l.facts;
  chosen : IsChosen (take l.known-index l.known-items) l.identities;
}
