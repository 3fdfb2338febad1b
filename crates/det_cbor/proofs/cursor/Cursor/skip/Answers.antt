use Rattle.std.proofs.Common.{◌≡◌, ℕ, ◌+◌, List, refl, subst}
use Rattle.det_cbor.specs.declared.reason.CborRefusal.{CborRefusal}
use Rattle.det_cbor.specs.Faults.{Faulty}
use Rattle.det_cbor.specs.Position.{Position, IsRefusal}
use Rattle.det_cbor.proofs.cursor.Cursor.skip.Goals as goal

-- a fault in the bytes that are left, as a refusal at its place
refused_from : (p : Position) (bytes : List ℕ) (start : ℕ) (e : CborRefusal) → record { left = bytes; place = start } ≡ p → Faulty 0 bytes e.place e.reason
    → IsRefusal p (Faulty 0) (record { place = start + e.place; reason = e.reason })
refused_from p bytes start e is fault = subst (λ (q : Position). IsRefusal q (Faulty 0) (record { place = start + e.place; reason = e.reason })) is (record { at = e.place; fault = fault; place = refl })

pub returns-in-Err-clause-refused : goal.returns-in-Err-clause-refused
returns-in-Err-clause-refused c = refused_from c.args.self.now c.self.inside.rest.now c.self.inside.at c.in-Err.refusal c.self.view_is c.in-Err.ensures.fault
