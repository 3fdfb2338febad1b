use Rattle.std.proofs.Common.{ℕ, List, Bor}
use Rattle.std.proofs.lemmas.Result.{err_from_is_err_and}
use Rattle.det_cbor.specs.declared.item.Item.{Item}
use Rattle.det_cbor.specs.ItemTree.{tree_of}
use Rattle.cbor_diag.proofs.Answered.{read_as, not_refused}
use Rattle.cbor_diag.proofs.reading.read_notation.Goals as goal

pub returns-clause-every_item : goal.returns-clause-every_item
returns-clause-every_item c = λ x n.
    read_as x (tree_of c.in_ok-item.item) c.args.text.now c.in_ok-item.field-0-1.now c.checked.result (rw c.as_bytes.ensures.value at c.in_ok-item.ensures) c.checked.ensures.only n

pub returns-in_err-item-clause-every_item : goal.returns-in_err-item-clause-every_item
returns-in_err-item-clause-every_item c = λ x n.
    let p = err_from_is_err_and c.from_residual.result c.from_residual.ensures.1 in
    rw (p.1, p.2) (not_refused {X = Item × Bor (List ℕ)} (λ r. (tree_of r.0, r.1.now)) x c.args.text.now c.in_err-item.field-0.0 n (rw c.as_bytes.ensures.value at c.in_err-item.ensures))
