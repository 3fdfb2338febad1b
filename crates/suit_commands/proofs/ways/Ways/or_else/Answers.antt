use Rattle.suit_commands.specs.WaysOnce.{counted}
use Rattle.suit_commands.proofs.WaysLaws.{else_made}
use Rattle.suit_commands.proofs.ways.Ways.or_else.Goals as goal

pub returns : goal.returns
returns c = else_made (counted c.args.self) (counted c.args.next) _ _ _ c.product.ensures c.plus.ensures c.product-2.ensures
