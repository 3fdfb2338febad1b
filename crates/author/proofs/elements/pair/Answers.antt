use Rattle.std.proofs.Common.{◌≡◌, ◌≢◌, List, [], ◌∷◌, length, None, refl, ◌∙◌, ap, arith}
use Rattle.serde_json.specs.declared.value.Value.{Value}
use Rattle.serde_json.specs.View.{items_view}
use Rattle.author.specs.Elements.{pair_in}
use Rattle.author.proofs.elements.pair.Goals as goal

no_pair : (vs : List Value) → length vs ≢ 2 → None ≡ pair_in (items_view vs)
no_pair [] h = refl
no_pair (v ∷ []) h = refl
no_pair (v ∷ w ∷ []) h = absurd (omega arith)
no_pair (v ∷ w ∷ x ∷ vs) h = refl

pub returns-else-values-eq2 : goal.returns-else-values-eq2
returns-else-values-eq2 c = no_pair c.elements-values.result.now (omega arith) ∙ ap pair_in c.elements-values.ensures
