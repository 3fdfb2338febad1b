use Rattle.std.proofs.Common.{sym, ◌∙◌, arith}
use Rattle.suit_envelope.specs.Making.{IsText}
use Rattle.suit_envelope.proofs.PayloadPlaces.{is_text, by_bytes, by_length}
use Rattle.suit_envelope.proofs.payload_order.key_order.Goals as goal

pub returns-in-Equal : goal.returns-in-Equal
returns-in-Equal c =
    let left : IsText c.args.left.now = is_text c.args.left.now (omega arith) (λ i. omega (arith, c.type_inv.left i)) c.utf8.left in
    let right : IsText c.args.right.now = is_text c.args.right.now (omega arith) (λ i. omega (arith, c.type_inv.right i)) c.utf8.right in
    c.cmp-in-Equal.ensures ∙ by_bytes c.args.left.now c.args.right.now left right (sym c.in-Equal.ensures)

pub returns-in_default : goal.returns-in_default
returns-in_default c =
    let left : IsText c.args.left.now = is_text c.args.left.now (omega arith) (λ i. omega (arith, c.type_inv.left i)) c.utf8.left in
    let right : IsText c.args.right.now = is_text c.args.right.now (omega arith) (λ i. omega (arith, c.type_inv.right i)) c.utf8.right in
    c.cmp.ensures ∙ by_length c.args.left.now c.args.right.now left right (λ e. c.in_default.not-Equal (c.cmp.ensures ∙ e))
