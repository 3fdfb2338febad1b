-- Events that follow others: which are covered, and when it does not matter what came before.
use Rattle.std.specs.Prelude.{◌↔◌, ℕ, List, [], ◌∷◌, ◌++◌, Option}
use Rattle.suit_params.specs.declared.digest.Digest.{Digest}
use Rattle.path_model.specs.declared.event.Event.{Event}
use Rattle.path_model.specs.Safe.{HasMatched, IsCovered}

-- each invoke among these events is covered, by those before it and by the past
abbrev pub CoveredFrom : List Event → List Event → Type 0
CoveredFrom past [] = Unit {0}
CoveredFrom past (event ∷ events) = IsCovered past event × CoveredFrom (past ++ event ∷ []) events

-- the same matches stand after both lists of events
abbrev pub SameMatches : List Event → List Event → Type 0
SameMatches events others =
    (component : ℕ) (digest : Digest) (size : Option ℕ)
    → HasMatched events component digest size ↔ HasMatched others component digest size
