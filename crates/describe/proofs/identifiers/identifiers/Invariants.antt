use Rattle.std.proofs.Common.{◌≡◌, map, take}
use Rattle.serde_json.specs.View.{view}
use Rattle.describe.specs.ValueData.{identifier_data}
use Rattle.describe.proofs.identifiers.identifiers.Given as goal

abbrev pub invariant-loop-id : goal.invariant-loop-id
invariant-loop-id l = map view l.values.items ≡ map identifier_data (take l.id-index l.id-items)
