use Rattle.suit_cursor.proofs.Taken.{array_ok, algorithm_ok, value_ok, digest_is}
use Rattle.suit_cursor.proofs.taking.whole_digest.Goals as goal

pub value-elements-requires : goal.value-elements-requires
value-elements-requires c = array_ok c.args.item c.requires

pub take_algorithm-kind-requires : goal.take_algorithm-kind-requires
take_algorithm-kind-requires c =
    algorithm_ok c.args.item c.place-array.result c.value-elements.result c.value-elements.new.self c.place-array.ensures.value c.value-elements.ensures c.requires

pub take_second-requires : goal.take_second-requires
take_second-requires c =
    value_ok c.args.item c.place-array.result c.value-elements.result c.value-elements.new.self c.place-array.ensures.value c.value-elements.ensures c.requires
    c.take_algorithm-kind.result c.take_algorithm-kind.new.item c.take_algorithm-kind.ensures

pub returns : goal.returns
returns c =
    digest_is c.args.item c.place-array.result c.value-elements.result c.value-elements.new.self c.place-array.ensures.value c.value-elements.ensures c.requires
    c.take_algorithm-kind.result c.take_algorithm-kind.new.item c.take_second.result c.take_second.new.item c.take_algorithm-kind.ensures c.take_second.ensures
