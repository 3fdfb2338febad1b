-- Going through the blocks of a wrapper.
use Rattle.std.specs.Prelude.{ℕ, zero, suc, List, [], ◌∷◌, Result, Ok, Err}
use Rattle.det_cbor.specs.Position.{Position}
use Rattle.suit_params.specs.declared.refusal.Refusal.{Refusal}
use Rattle.suit_params.specs.Reading.{content_from}

-- what was read, and then what is read after it
abbrev pub walk_on : (Position → List (List ℕ)) → Result (Position × Position) Refusal
    → List (List ℕ)
walk_on rest (Ok c) = c.0.left ∷ rest c.1
walk_on rest (Err r) = []

-- the contents of the next byte strings, at most n of them
abbrev pub walked_from : ℕ → Position → List (List ℕ)
walked_from zero p = []
walked_from (suc n) p = walk_on (walked_from n) (content_from p)
