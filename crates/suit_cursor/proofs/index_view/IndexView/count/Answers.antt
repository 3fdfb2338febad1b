use Rattle.std.proofs.Common.{◌∙◌, length, sym, ap, subst}
use Rattle.std.proofs.lemmas.List.FromFn.{length-range_with_len}
use Rattle.suit_cursor.specs.declared.index_view.Chosen.{Chosen}
use Rattle.suit_cursor.specs.Chosen.{chosen_indices, list_position, IsChosen}
use Rattle.suit_cursor.proofs.ListedIndices.{indices_length}
use Rattle.suit_cursor.proofs.index_view.IndexView.count.Goals as goal

pub returns-in-All : goal.returns-in-All
returns-in-All c =
    sym (length-range_with_len 0 c.in-All.count)
    ∙ ap (λ (chosen : Chosen). length (chosen_indices chosen)) (sym c.in-All.is)
    ∙ ap length c.self.view_is

pub returns-in-Listed : goal.returns-in-Listed
returns-in-Listed c =
    let listed = subst (λ (chosen : Chosen). IsChosen chosen) c.in-Listed.is c.self.invariant in
    sym (indices_length c.in-Listed.list.count c.in-Listed.list.list c.in-Listed.list.elements (list_position c.in-Listed.list) listed.indices)
    ∙ ap (λ (chosen : Chosen). length (chosen_indices chosen)) (sym c.in-Listed.is)
    ∙ ap length c.self.view_is
