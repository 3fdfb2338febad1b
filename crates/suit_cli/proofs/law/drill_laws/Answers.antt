use Rattle.suit_cli.proofs.DrillLawProofs.{laws}
use Rattle.suit_cli.proofs.law.drill_laws.Goals as goal

pub returns : goal.returns
returns c = laws
