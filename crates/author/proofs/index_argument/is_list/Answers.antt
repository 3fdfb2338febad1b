use Rattle.std.proofs.Common.{◌≡◌, List, [], ◌∷◌, length, not, eqb, refl, ◌∙◌, ap, arith}
use Rattle.serde_json.specs.declared.value.Value.{Value}
use Rattle.serde_json.specs.View.{items_view}
use Rattle.author.specs.Selections.{is_list}
use Rattle.author.proofs.index_argument.is_list.Goals as goal

not_empty : (vs : List Value) → not (eqb (length vs) 0) ≡ is_list (items_view vs)
not_empty [] = refl
not_empty (v ∷ vs) = grind arith

pub returns : goal.returns
returns c = ap not c.is_empty.ensures ∙ not_empty c.elements.result.now ∙ ap is_list c.elements.ensures
