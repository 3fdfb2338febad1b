use Rattle.suit_commands.proofs.NumberLawProofs.{number_laws}
use Rattle.suit_commands.proofs.numbers.number_laws.Goals as goal

pub returns : goal.returns
returns c = number_laws
