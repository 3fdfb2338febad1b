use Rattle.std.proofs.Common.{Bool, ap, sym, ◌∙◌}
use Rattle.serde_json.specs.Data.{item}
use Rattle.serde_json.specs.View.{items_view}
use Rattle.describe.specs.Growing.{joined}
use Rattle.describe.specs.SeverData.{entry_if}
use Rattle.describe.proofs.Joining.{joined_pushed}
use Rattle.describe.proofs.severing.push_entry.Goals as goal

pub returns-in_ok-push : goal.returns-in_ok-push
returns-in_ok-push c = λ more.
    let before = items_view c.args.entries.now.items in
    ap (λ vs. joined (items_view vs) more) c.in_ok-push.ensures.items ∙ joined_pushed c.args.entries.now.items c.in_ok-entry_value.field-0 more
    ∙ ap (λ d. joined before (item d more)) c.in_ok-entry_value.ensures
    ∙ ap (λ (b : Bool). joined before (entry_if b c.args.name.now c.args.kind more)) (sym c.if-severed.true)
