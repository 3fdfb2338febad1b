-- Bytes say one envelope.
use Rattle.std.specs.Prelude.{◌≡◌, Result, Ok, Err}
use Rattle.std.proofs.Common.{ap}
use Rattle.det_cbor.specs.HeadReading.{map_ok}

ok_or : {A E : Type 0} → A → Result A E → A
ok_or other (Ok a) = a
ok_or other (Err e) = other

pub said_once : {A B E : Type 0} (f : A → B) (a : A) (b : B) → map_ok {E = E} f (Ok a) ≡ Ok b → f a ≡ b
unfolding ok_or
said_once f a b is = ap (ok_or b) is
