-- What a put does.
use Rattle.std.specs.Prelude.{◌≡◌, ℕ, List, ◌++◌, take}
use Rattle.suit_edge.specs.declared.edge.Edge.{Edge}
use Rattle.suit_edge.specs.declared.edge.Edge.TheVariants as edge

-- the bytes put before and after: the whole piece is appended, or after a fault a prefix of it
abbrev pub Puts : Edge → List ℕ → List ℕ → List ℕ → Type 0
Puts edge.Done before now piece = now ≡ before ++ piece
Puts edge.Failed before now piece = (n : ℕ) × (now ≡ before ++ take n piece)
