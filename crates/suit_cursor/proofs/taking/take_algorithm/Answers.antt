use Rattle.suit_cursor.proofs.Taken.{head_ok, kind_known, algorithm_goes}
use Rattle.suit_cursor.proofs.taking.take_algorithm.Goals as goal

pub head-head-requires : goal.head-head-requires
head-head-requires c = head_ok c.args.array c.args.item.now c.requires

pub numbered_kind-requires : goal.numbered_kind-requires
numbered_kind-requires c = kind_known c.args.array c.args.item.now c.head-head.result c.head-head.new.self c.head-head.ensures c.requires

pub returns : goal.returns
returns c = algorithm_goes c.args.array c.args.item.now c.head-head.result c.head-head.new.self c.head-head.ensures c.requires c.numbered_kind.result c.numbered_kind.ensures
