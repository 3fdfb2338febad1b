use Rattle.suit_commands.proofs.TouchedLaws.{touched_laws}
use Rattle.suit_commands.proofs.plan_touched.touched_laws.Goals as goal

pub returns : goal.returns
returns c = touched_laws
