use Rattle.suit_edge.proofs.Losses.{loss_law}
use Rattle.suit_edge.proofs.law.loss_laws.Goals as goal

pub returns : goal.returns
returns c = loss_law
