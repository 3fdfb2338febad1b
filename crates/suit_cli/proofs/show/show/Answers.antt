use Rattle.suit_cli.specs.Stages.{Goes}
use Rattle.suit_cli.proofs.Chains.{ends_there, shows_bytes}
use Rattle.suit_cli.proofs.show.show.Goals as goal

pub returns-in_err-bytes : goal.returns-in_err-bytes
returns-in_err-bytes g c flash = ends_there _ _ _ _ c.from_residual.result c.in_err-bytes.field-0.0 c.from_residual.ensures.1 (c.in_err-bytes.ensures flash)

pub returns : goal.returns
returns g c flash = Goes c.in_ok-bytes.bytes _ _ (c.in_ok-bytes.ensures flash) (shows_bytes c.args.key_name.now _ _ _ _ _ c.as_slice.ensures (c.show_file.ensures flash))
