use Rattle.suit_commands.specs.WaysOnce.{counted}
use Rattle.suit_commands.proofs.WaysLaws.{then_made}
use Rattle.suit_commands.proofs.ways.Ways.then.Goals as goal

pub returns : goal.returns
returns c = then_made (counted c.args.self) (counted c.args.next) _ _ _ c.product.ensures c.product-2.ensures c.plus.ensures
