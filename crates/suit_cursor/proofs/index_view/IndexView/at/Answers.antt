use Rattle.std.proofs.Common.{◌∙◌, List, ℕ, length, slice_index, sym, ap, arith}
use Rattle.std.proofs.lemmas.List.FromFn.{length-range_with_len, get_or-range_with_len}
use Rattle.suit_cursor.specs.Chosen.{chosen_indices}
use Rattle.suit_cursor.proofs.index_view.IndexView.at.Goals as goal

pub returns-in-All : goal.returns-in-All
returns-in-All c =
    let all = sym c.self.view_is ∙ ap chosen_indices c.in-All.is in
    let same = ap (λ (l : List ℕ). slice_index l c.args.n) all in
    let there = get_or-range_with_len 0 c.in-All.field-0 c.args.n 0 (omega (arith, ap length all, length-range_with_len 0 c.in-All.field-0, c.requires)) in
    omega (arith, same, there)
