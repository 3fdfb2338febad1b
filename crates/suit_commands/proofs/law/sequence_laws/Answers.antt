use Rattle.suit_commands.proofs.SequenceLawProofs.{sequence_laws}
use Rattle.suit_commands.proofs.law.sequence_laws.Goals as goal

pub returns : goal.returns
returns c = sequence_laws
