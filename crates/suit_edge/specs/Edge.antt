-- What the answer of a call to the outside says.
use Rattle.suit_edge.specs.declared.edge.Edge.{Edge}
use Rattle.suit_edge.specs.declared.edge.Edge.TheVariants as edge

-- P holds if the call was done
abbrev pub IfDone : Edge → Type 0 → Type 0
IfDone edge.Done P = P
IfDone edge.Failed P = Unit {0}
