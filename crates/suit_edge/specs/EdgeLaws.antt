-- Laws of what an answer says.
use Rattle.suit_edge.specs.declared.edge.Edge.{Edge}
use Rattle.suit_edge.specs.declared.edge.Edge.TheVariants as edge
use Rattle.suit_edge.specs.Edge.{IfDone}

-- what follows if the call is done
pub if_done_then : (answer : Edge) (P Q : Type 0) → IfDone answer P → (P → Q) → IfDone answer Q
if_done_then edge.Done P Q is to = to is
if_done_then edge.Failed P Q is to = tt

-- what follows from two facts that hold if the call is done
pub both_done : (answer : Edge) (P Q R : Type 0) → IfDone answer P → IfDone answer Q → (P → Q → R)
    → IfDone answer R
both_done edge.Done P Q R is also to = to is also
both_done edge.Failed P Q R is also to = tt

-- what holds in any case holds if the call is done
pub always : (answer : Edge) (P : Type 0) → P → IfDone answer P
always edge.Done P is = is
always edge.Failed P is = tt
