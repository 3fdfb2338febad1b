use Rattle.std.proofs.Common.{subst, arith}
use Rattle.hmac_mac0.specs.Mac0.{IsHeader}
use Rattle.hmac_mac0.proofs.Blocks.{parts_mac0, mac0_parts, one_header}
use Rattle.hmac_mac0.proofs.Layouts.{none_is}
use Rattle.hmac_mac0.proofs.block.read_block.Goals as goal

pub returns-in_err-protected-clause-none : goal.returns-in_err-protected-clause-none
returns-in_err-protected-clause-none c =
    none_is c.from_residual.result c.from_residual.ensures (λ kind protected tag h. c.in_err-protected.ensures.none protected tag (mac0_parts c.args.block.now kind protected tag h))

pub returns-in_err-kind-clause-none : goal.returns-in_err-kind-clause-none
returns-in_err-kind-clause-none c =
    none_is c.from_residual-in_err-kind.result c.from_residual-in_err-kind.ensures (λ kind protected tag h.
    let same = one_header c.args.block.now protected c.in_ok-protected.protected.now tag c.in_ok-protected.tag.now (mac0_parts c.args.block.now kind protected tag h) c.in_ok-protected.ensures.some in
    c.in_err-kind.ensures.none kind (subst (IsHeader kind) same h.header))

pub returns-then-is_item-clause-some : goal.returns-then-is_item-clause-some
returns-then-is_item-clause-some c =
    parts_mac0 c.args.block.now c.in_ok-kind.kind c.in_ok-protected.protected.now c.in_ok-protected.tag.now (λ i. omega (arith, c.type_inv.block i)) (c.is_item.ensures.0 c.if-is_item.true) c.in_ok-protected.ensures.some
    c.in_ok-kind.ensures.some
