use Rattle.std.proofs.Common.{List, ℕ, [], ◌∷◌, ◌++◌, subst, append_assoc}
use Rattle.suit_params.specs.HasherState.{HasHashed}
use Rattle.suit_envelope.proofs.string_hash.add_parts.Goals as goal

pub returns : goal.returns
returns c = λ kind message held.
    subst (λ (whole : List ℕ). HasHashed c.update-2.new.self kind whole)
    (append_assoc message (c.args.first ∷ []) c.args.rest.now)
    (c.update-2.ensures kind (message ++ c.args.first ∷ []) (c.update.ensures kind message held))
