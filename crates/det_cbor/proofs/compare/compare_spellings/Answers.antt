use Rattle.std.proofs.Common.{◌∙◌, sym}
use Rattle.det_cbor.specs.DataItem.{spell}
use Rattle.det_cbor.specs.ItemOrder.{item_order}
use Rattle.det_cbor.specs.ItemTree.{tree_of}
use Rattle.det_cbor.proofs.Cuts.{Cuts-order}
use Rattle.det_cbor.proofs.ItemCuts.{items_cut_apart}
use Rattle.det_cbor.proofs.compare.compare_spellings.Goals as goal

pub returns : goal.returns
returns c =
    let x = tree_of c.args.left.now in
    let y = tree_of c.args.right.now in
    c.compare_by_parts.ensures ∙ sym (Cuts-order (item_order x y) (spell x) (spell y) (items_cut_apart 0 0 x y c.requires.left c.requires.right))
