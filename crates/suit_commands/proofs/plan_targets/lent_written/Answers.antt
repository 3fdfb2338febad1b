use Rattle.suit_commands.proofs.TargetLaws.{written_start, written_fixed}
use Rattle.suit_commands.proofs.plan_targets.lent_written.Goals as goal

pub returns-then-reach : goal.returns-then-reach
returns-then-reach c = written_start c.args.sequence c.in-Some.sequence c.args.count c.sequence_reach-reach.result c.in-Some.is c.requires.some c.requires.indexed c.sequence_reach-reach.ensures c.if-reach.true

pub returns-else-reach : goal.returns-else-reach
returns-else-reach c = written_fixed c.args.sequence c.in-Some.sequence c.args.count c.sequence_reach-reach.result c.in-Some.is c.requires.some c.requires.indexed c.sequence_reach-reach.ensures c.if-reach.false
