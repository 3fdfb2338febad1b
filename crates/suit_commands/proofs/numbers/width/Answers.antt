use Rattle.suit_commands.proofs.Capping.{times_is}
use Rattle.suit_commands.proofs.numbers.width.Goals as goal

pub returns : goal.returns
returns c = times_is _ _ _ _ _ c.measured-measure.ensures.work c.measured-measure.ensures.on c.product.ensures
