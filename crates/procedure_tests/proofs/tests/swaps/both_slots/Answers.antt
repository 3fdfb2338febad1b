use Rattle.procedure_tests.proofs.Slots.{both_placed}
use Rattle.procedure_tests.proofs.tests.swaps.both_slots.Goals as goal

pub returns : goal.returns
returns c = both_placed c.args.journal.now 24576 c.args.swap.now.first c.args.swap.now.second c.requires
