use Rattle.std.proofs.Common.{[]}
use Rattle.suit_envelope.proofs.WalkLaws.{walk_all, walk_never}
use Rattle.suit_envelope.proofs.walk.BlockWalk.new.Goals as goal

pub returns-in-Ok : goal.returns-in-Ok
returns-in-Ok c = walk_all c.args.envelope.now.wrapper.now c.in-Ok.field-0-0 c.in-Ok.rest c.count.result c.in-Ok.ensures c.count.ensures

pub returns-in-Err : goal.returns-in-Err
returns-in-Err c = walk_never c.args.envelope.now.wrapper.now c.in-Err.field-0 [] c.in-Err.ensures
