use Rattle.std.proofs.Common.{[]}
use Rattle.serde_json.specs.View.{view}
use Rattle.author.proofs.TooLongFacts.{bare_never_flawed}
use Rattle.author.proofs.parts.bare_parts_of.Goals as goal

pub unreachable-requires : goal.unreachable-requires
unreachable-requires c = bare_never_flawed (view c.args.description.now.value) c.args.files.now [] c.args.description.now.accepted c.args.severed _ (rw c.in-Err-Flawed.field-0-is at c.in-Err-Flawed.ensures)
