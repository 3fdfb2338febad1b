use Rattle.std.proofs.Common.{ap}
use Rattle.det_cbor.specs.ResultLaws.{same_ok}
use Rattle.hmac_mac0.proofs.Layouts.{kind_itself}
use Rattle.hmac_mac0.proofs.layout.head.Goals as goal

pub returns-in-Err-clause-none : goal.returns-in-Err-clause-none
returns-in-Err-clause-none c h = absurd (cc (c.in-Err.ensures.every_head _ _ h.2))

pub returns-else-eq-clause-none : goal.returns-else-eq-clause-none
returns-else-eq-clause-none c h =
    let is = same_ok _ _ (c.in-Ok.ensures.every_head _ _ h.2) in
    let kind = kind_itself c.in-Ok.head.kind c.args.kind (ap (λ head. head.kind) is) in
    absurd (cc (kind, c.if-eq.ensures))
