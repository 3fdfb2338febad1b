use Rattle.suit_commands.proofs.TouchedLaws.{touched_bits}
use Rattle.suit_commands.proofs.plan_touched.lent_touched.Goals as goal

pub returns-in-Some : goal.returns-in-Some
returns-in-Some c = touched_bits c.args.sequence c.in-Some.sequence c.args.count c.sequence_touched.result c.in-Some.is c.requires.some c.requires.indexed c.sequence_touched.ensures
