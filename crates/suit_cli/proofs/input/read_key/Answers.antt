use Rattle.suit_cli.proofs.KeyReading.{not_empty, unread_there, empty_there, key_there}
use Rattle.suit_cli.proofs.input.read_key.Goals as goal

pub returns-in_err-key : goal.returns-in_err-key
returns-in_err-key g c flash = unread_there c.args.name.now _ _ c.from_residual.result c.in_err-key.field-0.0 c.from_residual.ensures.1 (c.in_err-key.ensures flash)

pub returns-then-is_empty : goal.returns-then-is_empty
returns-then-is_empty g c flash = empty_there c.args.name.now _ _ c.in_ok-key.key c.fixed.result c.declined.result (c.is_empty.ensures.0 c.if-is_empty.true) (c.in_ok-key.ensures flash) c.fixed.ensures c.declined.ensures

pub returns-else-is_empty : goal.returns-else-is_empty
returns-else-is_empty g c flash = key_there c.args.name.now _ _ c.in_ok-key.key (not_empty _ c.is_empty.result c.is_empty.ensures.1 c.if-is_empty.false) (c.in_ok-key.ensures flash)
