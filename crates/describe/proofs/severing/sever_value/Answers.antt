use Rattle.std.proofs.Common.{◌≡◌, false, eqb, length, Some, ap, ◌∙◌, rules}
use Rattle.serde_json.specs.Data.{Data}
use Rattle.describe.specs.SeverData.{severed_names}
use Rattle.describe.proofs.Joining.{some_names}
use Rattle.describe.proofs.severing.sever_value.Goals as goal

pub returns-else-is_empty : goal.returns-else-is_empty
returns-else-is_empty c =
    let some : eqb (length c.in_ok-entries.entries.items) 0 ≡ false = search rules in
    ap (λ (d : Data). Some d) c.from.ensures ∙ some_names c.in_ok-entries.entries.items (severed_names c.args.severed) some c.in_ok-entries.ensures
