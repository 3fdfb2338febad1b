use Rattle.std.proofs.Common.{List, ℕ, subst}
use Rattle.suit_envelope.specs.Said.{said_by}
use Rattle.suit_cli.specs.Stages.{ending_of}
use Rattle.suit_cli.specs.Commands.{describes_manifest}
use Rattle.suit_cli.proofs.Opened.{goes_behind, stops_before}
use Rattle.suit_cli.proofs.show_description.describe_file.Goals as goal

pub returns-in_err-file : goal.returns-in_err-file
returns-in_err-file c here = stops_before c.args.bytes.now (describes_manifest c.args.bytes.now) _ _ c.from_residual.result c.in_err-file.field-0.0 c.from_residual.ensures.1 (c.in_err-file.ensures _)

pub returns : goal.returns
returns c here = goes_behind c.args.bytes.now c.in_ok-file.file c.in_ok-file.ensures (describes_manifest c.args.bytes.now) _ _ _ (subst (λ (b : List ℕ). describes_manifest b (said_by c.in_ok-file.file.envelope) c.in_ok-file.file.manifest here here (ending_of c.describe_manifest.result)) c.in_ok-file.ensures.whole (c.describe_manifest.ensures here))
