use Rattle.suit_cli.proofs.LaunchedUpdateLawProofs.{laws}
use Rattle.suit_cli.proofs.life.launched_update_laws.Goals as goal

pub returns : goal.returns
returns c = laws c.record_laws.ensures.some
