use Rattle.std.specs.Prelude.{string_bytes}
use Rattle.serde_json.specs.View.{view}
use Rattle.suit_envelope.specs.Said.{said_by}
use Rattle.suit_cli.proofs.DescriptionTexts.{description_said}
use Rattle.suit_cli.proofs.show_description.description_text.Goals as goal

pub returns : goal.returns
returns c =
    description_said (λ s. string_bytes s) c.to_string.result (view c.in_ok-describe.field-0) c.args.envelope.now.whole.now (said_by c.args.envelope.now) c.args.manifest.now c.args.members.now
    c.describe_laws.ensures.no_float c.in_ok-describe.ensures c.to_string.ensures.text
