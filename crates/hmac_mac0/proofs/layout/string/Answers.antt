use Rattle.hmac_mac0.proofs.Layouts.{string_some, string_none}
use Rattle.hmac_mac0.proofs.layout.string.Goals as goal

pub returns-clause-some : goal.returns-clause-some
returns-clause-some c =
    string_some c.args.cursor.now.left c.head.new.cursor c.bytes.new.self c.in_ok-length.length c.bytes.result c.ok.result c.ok.ensures.value c.in_ok-length.ensures.some c.bytes.ensures.ok

pub returns-clause-none : goal.returns-clause-none
returns-clause-none c =
    string_none c.args.cursor.now.left c.head.new.cursor.left c.in_ok-length.length _ c.bytes.result c.ok.result c.ok.ensures.value c.in_ok-length.ensures.some c.bytes.ensures.short
