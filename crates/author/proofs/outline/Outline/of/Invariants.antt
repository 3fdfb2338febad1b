use Rattle.std.proofs.Common.{◌≡◌}
use Rattle.serde_json.specs.View.{members_view}
use Rattle.author.specs.Outlines.{noted_all, outline_view}
use Rattle.author.proofs.outline.Outline.of.Given as goal

abbrev pub invariant-loop-key : goal.invariant-loop-key
invariant-loop-key l = noted_all (outline_view l.initial.outline) (members_view l.initial.key-iterator) ≡ noted_all (outline_view l.outline) (members_view l.key-iterator)
