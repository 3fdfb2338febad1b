use Rattle.std.proofs.Common.{◌∙◌, length, sym, ap}
use Rattle.suit_cursor.proofs.ListedIndices.{indices_length}
use Rattle.suit_cursor.proofs.indices.LentIndices.len.Goals as goal

pub returns : goal.returns
returns c = sym (indices_length c.self.inside.count c.self.inside.list c.self.inside.left c.self.inside.cursor c.self.invariant) ∙ ap length c.self.view_is
