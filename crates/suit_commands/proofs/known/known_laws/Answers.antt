use Rattle.suit_commands.proofs.KnownPlan.{known_numbers, known_targets, known_touched}
use Rattle.suit_commands.proofs.known.known_laws.Goals as goal

pub returns-clause-numbers : goal.returns-clause-numbers
returns-clause-numbers c = known_numbers

pub returns-clause-targets : goal.returns-clause-targets
returns-clause-targets c = known_targets

pub returns-clause-touched : goal.returns-clause-touched
returns-clause-touched c = known_touched
