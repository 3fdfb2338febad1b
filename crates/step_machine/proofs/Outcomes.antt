-- Facts that hold by the outcome of a call.
use Rattle.std.proofs.Common.{Result, Ok, Err, IfOk, OnOk, OnErr}

-- a fact that always holds
pub on_any_err : {A E P : Type 0} (r : Result A E) → P → OnErr r P
on_any_err (Ok value) holds = tt
on_any_err (Err fault) holds = holds

-- a fact that follows
pub on_ok : {A E P Q : Type 0} (r : Result A E) → OnOk r P → (P → Q) → OnOk r Q
on_ok (Ok value) holds then = then holds
on_ok (Err fault) holds then = tt

-- of a value, what two facts of it give
pub if_ok_both : {A E : Type 0} {P Q R : A → Type 0} (r : Result A E) → IfOk r P → IfOk r Q → ((x : A) → P x → Q x → R x) → IfOk r R
if_ok_both (Ok value) one other then = then value one other
if_ok_both (Err fault) one other then = tt
