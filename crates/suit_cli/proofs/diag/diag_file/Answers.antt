use Rattle.std.proofs.Common.{refl}
use Rattle.det_cbor.specs.ItemTree.{tree_of}
use Rattle.suit_cli.specs.Stages.{Goes, Ends}
use Rattle.suit_cli.proofs.Chains.{anywhere, ends_there, lacks_last}
use Rattle.suit_cli.proofs.diag.diag_file.Goals as goal

pub returns-in_err-item : goal.returns-in_err-item
returns-in_err-item c here = ends_there _ _ here here c.from_residual.result c.in_err-item.field-0.0 c.from_residual.ensures.1 (c.in_err-item.ensures here)

pub notated-requires : goal.notated-requires
notated-requires c = (c.in_ok-item.ensures anywhere).1.valid

pub returns-in_err-notated : goal.returns-in_err-notated
returns-in_err-notated c here =
    Goes (tree_of c.in_ok-item.item) here _ (c.in_ok-item.ensures here) (lacks_last _ here c.from_residual-in_err-notated.result c.from_residual-in_err-notated.ensures.1)

pub returns : goal.returns
returns c here = Goes (tree_of c.in_ok-item.item) here _ (c.in_ok-item.ensures here) (Ends c.in_ok-notated.field-0 refl c.in_ok-notated.ensures)
