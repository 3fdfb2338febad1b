use Rattle.std.proofs.Common.{◌≡◌, map, take}
use Rattle.serde_json.specs.View.{view}
use Rattle.describe.specs.ValueData.{hex_data}
use Rattle.describe.proofs.identifiers.identifier.Given as goal

abbrev pub invariant-loop-part : goal.invariant-loop-part
invariant-loop-part l = map view l.values.items ≡ map hex_data (take l.part-index l.part-items)
