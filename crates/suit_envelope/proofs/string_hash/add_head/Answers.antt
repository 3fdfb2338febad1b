use Rattle.std.proofs.Common.{List, ℕ, ◌++◌, sym, subst, ◌∙◌}
use Rattle.suit_params.specs.HasherState.{HasHashed}
use Rattle.suit_envelope.proofs.string_hash.add_head.Goals as goal

pub returns : goal.returns
returns c = λ kind message held.
    subst (λ (head : List ℕ). HasHashed c.add_parts.new.hasher kind (message ++ head))
    (sym c.parts-first.ensures ∙ c.new-head.ensures)
    (c.add_parts.ensures kind message held)
