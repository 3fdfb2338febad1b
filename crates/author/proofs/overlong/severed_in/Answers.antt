use Rattle.author.specs.Held.{value_of}
use Rattle.author.specs.Outlines.{outline_view}
use Rattle.author.proofs.TooLongFacts.{never_severed}
use Rattle.author.proofs.overlong.severed_in.Goals as goal

pub unreachable-requires : goal.unreachable-requires
unreachable-requires c =
    never_severed (value_of c.args.description.now) (outline_view c.args.outline.now) _ c.args.description.now.accepted c.requires (rw c.in-Err-Flawed.field-0-is at c.in-Err-Flawed.ensures)
