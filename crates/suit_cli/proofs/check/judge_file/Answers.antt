use Rattle.suit_cli.specs.Commands.{judges_manifest}
use Rattle.suit_cli.proofs.Opened.{goes_behind, stops_before}
use Rattle.suit_cli.proofs.check.judge_file.Goals as goal

pub returns-in_err-file : goal.returns-in_err-file
returns-in_err-file c here = stops_before c.args.bytes.now judges_manifest _ _ c.from_residual.result c.in_err-file.field-0.0 c.from_residual.ensures.1 (c.in_err-file.ensures _)

pub returns : goal.returns
returns c here = goes_behind c.args.bytes.now c.in_ok-file.file c.in_ok-file.ensures judges_manifest _ _ _ (c.judge_manifest.ensures here)
