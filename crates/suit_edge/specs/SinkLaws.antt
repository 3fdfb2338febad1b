-- Laws of puts.
use Rattle.std.specs.Prelude.{◌≡◌, ◌≤◌, ℕ, List, ◌++◌, length, take}
use Rattle.suit_edge.specs.declared.edge.Edge.{Edge}
use Rattle.suit_edge.specs.declared.edge.Edge.TheVariants as edge
use Rattle.suit_edge.specs.Sink.{Puts}

pub record SinkLaws : Type 0 where
  -- what was put before stays, whatever the answer
  pub stays : (answer : Edge) (before now piece : List ℕ) → Puts answer before now piece
      → take (length before) now ≡ before
  -- what has been put is a prefix of everything that was to be put
  pub front : (answer : Edge) (before now piece : List ℕ) → Puts answer before now piece
      → (n : ℕ) × (n ≤ length (before ++ piece)) × (now ≡ take n (before ++ piece))
  -- if the call is done, it is everything
  pub whole : (before now piece : List ℕ) → Puts edge.Done before now piece → now ≡ before ++ piece
