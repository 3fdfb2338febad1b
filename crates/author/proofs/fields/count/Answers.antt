use Rattle.std.proofs.Common.{ap, sym, ◌∙◌}
use Rattle.serde_json.specs.View.{view}
use Rattle.author.specs.Descriptions.{listed}
use Rattle.author.proofs.Counts.{capped_items, capped_small, capped_large}
use Rattle.author.proofs.fields.count.Goals as goal

pub returns-then-listed : goal.returns-then-listed
returns-then-listed c =
    sym (capped_items c.elements-listed.result.now (view c.in-Some.components.now) c.elements-listed.ensures ∙ capped_small _ c.if-listed.true) ∙ ap listed c.in-Some.ensures

pub returns-else-listed : goal.returns-else-listed
returns-else-listed c =
    sym (capped_items c.elements-listed.result.now (view c.in-Some.components.now) c.elements-listed.ensures ∙ capped_large _ c.if-listed.false) ∙ ap listed c.in-Some.ensures
