use Rattle.std.proofs.Common.{ℕ, List, [], get_or, ap, ◌∙◌}
use Rattle.manifest_view.proofs.SameIdentifiers.{alike_told}
use Rattle.manifest_view.proofs.alike.LentIdentifiersIdentifiedList.are_same.Goals as goal

pub returns-clause-told : goal.returns-clause-told
returns-clause-told c =
    let other = c.at-2.ensures.lent ∙ ap (λ (ids : List (List (List ℕ))). get_or ids c.args.other []) c.at.ensures.same in
    alike_told c.args.self.now c.args.one c.args.other c.at.result c.at-2.result c.are_same.result c.requires.one c.requires.other c.at.ensures.lent other c.are_same.ensures
