use Rattle.suit_envelope.proofs.WrapperLaws.{stated_is, stated_never}
use Rattle.suit_envelope.proofs.wrapper_parts.stated_digest.Goals as goal

pub unreachable-requires : goal.unreachable-requires
unreachable-requires c = stated_never c.args.envelope.now.wrapper.now c.in-Err.field-0 c.requires c.in-Err.ensures

pub returns : goal.returns
returns c = λ digest blocks so. stated_is c.args.envelope.now.wrapper.now digest c.in-Ok.digest blocks so c.in-Ok.ensures
