use Rattle.cbor_diag.proofs.Again.{one_item_of}
use Rattle.cbor_diag.proofs.law.notation_laws.Goals as goal

pub returns : goal.returns
returns c = one_item_of
