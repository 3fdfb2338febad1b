use Rattle.suit_cli.proofs.Diagnosing.{decoded_item, never_faulty}
use Rattle.suit_cli.proofs.diag.decoded.Goals as goal

pub returns-in-Ok : goal.returns-in-Ok
returns-in-Ok c = decoded_item c.args.bytes.now _ _ c.requires c.in-Ok.ensures.every_item

pub unreachable-requires : goal.unreachable-requires
unreachable-requires c = never_faulty c.args.bytes.now _ _ _ c.requires c.in-Err-Refused.field-0-is c.in-Err-Refused.ensures.every_item
