use Rattle.suit_commands.proofs.TargetLaws.{named_sources}
use Rattle.suit_commands.proofs.plan_targets.lent_sources.Goals as goal

pub returns-in-Some : goal.returns-in-Some
returns-in-Some c = named_sources c.args.sequence c.in-Some.sequence c.sequence_sources.result c.in-Some.is c.sequence_sources.ensures
