use Rattle.std.proofs.Common.{◌≡◌, drop}
use Rattle.serde_json.specs.View.{items_view}
use Rattle.author.specs.Severing.{none_severed, severed_from}
use Rattle.author.proofs.severing.severed_members.Given as goal

abbrev pub invariant-loop-index : goal.invariant-loop-index
invariant-loop-index l =
    severed_from l.given 0 none_severed (items_view l.value-items) ≡ severed_from l.given l.index l.severed (items_view (drop l.index l.value-items))
