use Rattle.std.proofs.Common.{◌≡◌, map, take}
use Rattle.serde_json.specs.View.{view}
use Rattle.describe.specs.ValueData.{number_data}
use Rattle.describe.proofs.selection.indices.Given as goal

abbrev pub invariant-loop-index : goal.invariant-loop-index
invariant-loop-index l = map view l.values.items ≡ map number_data (take l.index-index l.index-items)
