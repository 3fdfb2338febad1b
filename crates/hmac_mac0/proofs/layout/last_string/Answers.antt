use Rattle.std.proofs.Common.{arith}
use Rattle.hmac_mac0.proofs.Layouts.{not_alone}
use Rattle.hmac_mac0.proofs.layout.last_string.Goals as goal

pub returns-then-left-gt0-clause-none : goal.returns-then-left-gt0-clause-none
returns-then-left-gt0-clause-none c content h =
    not_alone c.args.cursor.now.left c.in_ok-content.content.now c.string.new.cursor.left content c.in_ok-content.ensures.some (omega arith) h
