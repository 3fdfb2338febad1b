-- Facts that depend on the outcome of a call.
use Rattle.std.proofs.Common.{Result, Ok, Err, IfOk}

-- what follows from two facts about the value
pub if_ok_both : {A E : Type 0} {P Q R : A → Type 0} (r : Result A E) → IfOk r P → IfOk r Q → ((x : A) → P x → Q x → R x) → IfOk r R
if_ok_both (Ok x) one other then = then x one other
if_ok_both (Err fault) one other then = tt
