use Rattle.std.proofs.Common.{◌≡◌}
use Rattle.serde_json.specs.View.{members_view}
use Rattle.json_fields.specs.Objects.{members_of}
use Rattle.json_fields.proofs.objects.object.Given as goal

abbrev pub invariant-loop-key : goal.invariant-loop-key
invariant-loop-key g l =
    members_of g.D.Draft.takes l.initial.draft (members_view l.initial.key-iterator) ≡ members_of g.D.Draft.takes l.draft (members_view l.key-iterator)
