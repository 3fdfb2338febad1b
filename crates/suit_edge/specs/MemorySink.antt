-- A sink in memory, and what its calls do.
use Rattle.std.specs.Prelude.{◌≡◌, ℕ, List, ◌++◌}
use Rattle.suit_edge.specs.declared.edge.Edge.{Edge}
use Rattle.suit_edge.specs.declared.edge.Edge.TheVariants as edge
use Rattle.suit_edge.specs.Calls.{CallCounts, Succeeds, CallFails}

-- the bytes put so far, and the counts of calls
pub record SinkState : Type 0 where
  pub put : List ℕ
  pub calls : CallCounts

-- a put that is done appends the piece, and one that fails appends nothing
abbrev pub PutsExactly : Edge → SinkState → SinkState → List ℕ → Type 0
PutsExactly edge.Done before now piece =
    Succeeds before.calls now.calls × (now.put ≡ before.put ++ piece)
PutsExactly edge.Failed before now piece = CallFails before.calls now.calls × (now.put ≡ before.put)
