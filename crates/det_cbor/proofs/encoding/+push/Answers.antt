use Rattle.std.proofs.Common.{◌≡◌, List, ℕ, OnOk, subst}
use Rattle.det_cbor.specs.ItemTree.{tree_of}
use Rattle.det_cbor.proofs.ItemCuts.{after_head}
use Rattle.det_cbor.proofs.encoding.+push.Goals as goal

pub push_item-returns-clause-ok : goal.push_item-returns-clause-ok
push_item-returns-clause-ok t c =
    subst (λ (bytes : List ℕ). OnOk c.push_parts.result (c.push_parts.new.out ≡ bytes))
    (after_head c.args.out.now c.push_item_head.new.out (tree_of c.args.item.now) c.in_ok-push_item_head.ensures.ok)
    c.push_parts.ensures.ok
