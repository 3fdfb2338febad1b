use Rattle.suit_commands.proofs.TargetLawProofs.{target_laws}
use Rattle.suit_commands.proofs.plan_targets.target_laws.Goals as goal

pub returns : goal.returns
returns c = target_laws
