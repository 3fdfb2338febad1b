use Rattle.std.proofs.Common.{[]}
use Rattle.suit_params.proofs.hasher.hash.Goals as goal

pub returns : goal.returns
returns c = c.finish.ensures c.args.kind c.args.bytes.now (c.update.ensures c.args.kind [] c.new-hasher.ensures)
