use Rattle.std.proofs.Common.{◌≡◌, drop}
use Rattle.serde_json.specs.View.{items_view}
use Rattle.json_fields.specs.Arrays.{each_from}
use Rattle.json_fields.proofs.Folds.{after}
use Rattle.json_fields.proofs.arrays.array.Given as goal

abbrev pub invariant-loop-index : goal.invariant-loop-index
invariant-loop-index g l =
    let form = g.F.Form.reads l.form in
    each_from form 0 (items_view l.element-items) ≡ after l.items.items (each_from form l.index (items_view (drop l.index l.element-items)))
