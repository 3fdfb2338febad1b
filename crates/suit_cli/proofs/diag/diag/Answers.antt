use Rattle.std.proofs.Common.{subst, List, ℕ}
use Rattle.suit_cli.specs.Outside.{Outside}
use Rattle.suit_cli.specs.Stages.{Goes, ending_of}
use Rattle.suit_cli.specs.Commands.{diagnoses_file}
use Rattle.suit_cli.proofs.Chains.{ends_there}
use Rattle.suit_cli.proofs.diag.diag.Goals as goal

pub returns-in_err-bytes : goal.returns-in_err-bytes
returns-in_err-bytes g c flash = ends_there _ _ _ _ c.from_residual.result c.in_err-bytes.field-0.0 c.from_residual.ensures.1 (c.in_err-bytes.ensures flash)

pub returns : goal.returns
returns g c flash =
    Goes c.in_ok-bytes.bytes _ _ (c.in_ok-bytes.ensures flash)
    (subst (λ (b : List ℕ). (here : Outside) → diagnoses_file b here here (ending_of c.diag_file.result)) c.as_slice.ensures c.diag_file.ensures _)
