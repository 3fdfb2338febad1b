use Rattle.std.proofs.Common.{Ok, Err}
use Rattle.author.specs.Held.{value_of}
use Rattle.suit_cli.specs.Stages.{Goes}
use Rattle.suit_cli.proofs.Chains.{ends_second, ends_there}
use Rattle.suit_cli.proofs.Authoring.{described_by}
use Rattle.suit_cli.proofs.make.make_envelope.Goals as goal

pub returns-in_err-bytes : goal.returns-in_err-bytes
returns-in_err-bytes g c flash = ends_there _ _ _ _ c.from_residual.result c.in_err-bytes.field-0.0 c.from_residual.ensures.1 (c.in_err-bytes.ensures flash)

pub returns-in_err-description : goal.returns-in_err-description
returns-in_err-description g c flash =
    ends_second _ _ _ _ _ _ c.in_ok-bytes.bytes (c.in_ok-bytes.ensures flash) c.from_residual-in_err-description.result c.in_err-description.field-0.0 c.from_residual-in_err-description.ensures.1
    (described_by _ _ c.as_slice.ensures (Err c.in_err-description.field-0.0) c.in_err-description.ensures _)

pub returns : goal.returns
returns g c flash =
    Goes c.in_ok-bytes.bytes _ _ (c.in_ok-bytes.ensures flash)
    (Goes (value_of c.in_ok-description.description) _ _ (described_by _ _ c.as_slice.ensures (Ok (value_of c.in_ok-description.description)) c.in_ok-description.ensures _)
    (c.make_described.ensures flash))
