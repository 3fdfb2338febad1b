use Rattle.std.proofs.Common.{◌≡◌, Some, None, Option, refl, sym, true, false, arith}
use Rattle.uuid.specs.Text.{parsed}
use Rattle.json_fields.proofs.values.uuid.Goals as goal

none_unless : {A : Type 0} (o : Option A) → (((u : A) × (o ≡ Some u)) → false ≡ true) → o ≡ None
none_unless None f = refl
none_unless (Some u) f = let bad : false ≡ true = f (u, refl) in grind arith

pub returns-in-Err : goal.returns-in-Err
returns-in-Err c =
    let none = none_unless (parsed c.in-Some.text.now) (λ h. c.in-Err.ensures.ok.1 h) in
    rw (sym c.in-Some.ensures, none) c.flawed.ensures
