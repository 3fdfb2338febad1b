use Rattle.hmac_mac0.proofs.Layouts.{found_value, found_true, null_found, null_begins}
use Rattle.hmac_mac0.proofs.layout.null.Goals as goal

pub returns-clause-passed : goal.returns-clause-passed
returns-clause-passed c h =
    let value = found_value _ c.head.result c.is_some.result c.is_some.ensures c.head.ensures.some h in
    null_found c.args.cursor.now.left c.head.new.cursor.left value.0 value.1

pub returns-clause-every : goal.returns-clause-every
returns-clause-every c rest h = found_true _ c.head.result c.is_some.result c.is_some.ensures c.head.ensures.none (null_begins c.args.cursor.now.left rest h)
