use Rattle.std.proofs.Common.{refl, subst, List, ℕ}
use Rattle.suit_envelope.specs.Said.{said_by}
use Rattle.suit_cli.specs.Stages.{Goes, Ends}
use Rattle.suit_cli.specs.Shown.{IsShown}
use Rattle.suit_cli.proofs.Chains.{ends_there, lacks_last}
use Rattle.suit_cli.proofs.show.show_manifest.Goals as goal

pub returns-in_err-key : goal.returns-in_err-key
returns-in_err-key g c flash = ends_there _ _ _ _ c.from_residual.result c.in_err-key.field-0.0 c.from_residual.ensures.1 (c.in_err-key.ensures flash)

pub returns-in_err-show_lines : goal.returns-in_err-show_lines
returns-in_err-show_lines g c flash =
    Goes c.in_ok-key.key _ _ (c.in_ok-key.ensures flash) (lacks_last _ _ c.from_residual-in_err-show_lines.result c.from_residual-in_err-show_lines.ensures.1)

pub returns : goal.returns
returns g c flash =
    Goes c.in_ok-key.key _ _ (c.in_ok-key.ensures flash)
    (Ends c.in_ok-show_lines.field-0 refl
    (subst (λ (k : List ℕ). IsShown (said_by c.args.envelope.now) c.args.manifest.now k c.in_ok-show_lines.field-0) c.as_slice.ensures c.in_ok-show_lines.ensures))
