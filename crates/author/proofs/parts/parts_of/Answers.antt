use Rattle.serde_json.specs.View.{view}
use Rattle.author.proofs.SameFields.{never_flawed}
use Rattle.author.proofs.parts.parts_of.Goals as goal

pub unreachable-requires : goal.unreachable-requires
unreachable-requires c = never_flawed (view c.args.description.now.value) c.args.files.now _ c.args.description.now.accepted (rw c.in-Err-Flawed.field-0-is at c.in-Err-Flawed.ensures)
