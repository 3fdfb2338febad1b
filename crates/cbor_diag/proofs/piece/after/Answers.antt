use Rattle.cbor_diag.proofs.Steps.{stripped}
use Rattle.cbor_diag.proofs.piece.after.Goals as goal

pub returns : goal.returns
returns c = stripped _ c.args.mark.now c.args.text.now c.strip_prefix.result c.strip_prefix.ensures.cases
