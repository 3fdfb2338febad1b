use Rattle.std.proofs.Common.{◌∙◌, length, sym, ap}
use Rattle.suit_manifest.specs.ComponentsReading.{identifier_at}
use Rattle.manifest_view.proofs.Elements.{all_length}
use Rattle.manifest_view.proofs.identifiers.LentIdentifiers.len.Goals as goal

pub returns : goal.returns
returns c = sym (all_length identifier_at c.self.inside.left c.self.inside.cursor c.self.invariant) ∙ ap length c.self.view_is
