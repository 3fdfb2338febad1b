use Rattle.std.proofs.Common.{refl}
use Rattle.serde_json.proofs.Views.{members_view-insert_entry, view-Object}
use Rattle.conformance.proofs.values.with_sequence.Goals as goal

pub returns-in_ok-insert-in-Object : goal.returns-in_ok-insert-in-Object
returns-in_ok-insert-in-Object c =
    rw (
      c.in-Object.is,
      view-Object c.in-Object.members,
      view-Object c.insert.new.self,
      c.in_ok-insert-in-Object.ensures.entries,
      members_view-insert_entry,
      c.in_ok-name-in-Object.ensures.ok,
      c.from.ensures,
    )
    refl
