use Rattle.std.proofs.Common.{◌∙◌, ◌<◌, length, sym, ap, arith}
use Rattle.suit_cursor.proofs.ListedIndices.{indices_length}
use Rattle.suit_cursor.proofs.index_view.ListedIndices.of.Goals as goal

pub overflow_cast-result : goal.overflow_cast-result
overflow_cast-result c =
    let long = sym (ap length c.indices.view_is) ∙ indices_length c.indices.inside.count c.indices.inside.list c.indices.inside.left c.indices.inside.cursor c.indices.invariant in
    let small : c.indices.inside.left < 4294967296 = omega (arith, long, c.requires) in
    search (arith, small)
