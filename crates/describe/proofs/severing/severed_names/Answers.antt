use Rattle.std.proofs.Common.{ap, sym, ◌∙◌}
use Rattle.std.specs.Prelude.{codes}
use Rattle.serde_json.specs.Data.{no_items}
use Rattle.serde_json.specs.View.{items_view}
use Rattle.describe.specs.Growing.{joined}
use Rattle.describe.specs.SeverData.{entry_if, severed_names}
use Rattle.describe.proofs.Joining.{joined_none}
use Rattle.describe.proofs.severing.severed_names.Goals as goal

pub returns : goal.returns
returns c =
    let s = c.args.severed in
    let text = entry_if s.text (codes "text") s.kinds.text no_items in
    sym (joined_none (items_view c.push_entry-3.new.entries.items))
    ∙ c.in_ok-push_entry-3.ensures no_items ∙ c.in_ok-push_entry-2.ensures text ∙ c.in_ok-push_entry.ensures (entry_if s.install (codes "install") s.kinds.install text)
    ∙ ap (λ vs. joined (items_view vs) (severed_names s)) c.new-entries.ensures.items
