use Rattle.std.proofs.Common.{◌≡◌, drop}
use Rattle.serde_json.specs.View.{items_view, members_view}
use Rattle.author.specs.FileNames.{once, names_in_items, names_in_members}
use Rattle.author.proofs.file_names.+collect.Given as goal

abbrev pub invariant-loop-item : goal.invariant-loop-item
invariant-loop-item l =
    once l.initial.names (names_in_items (items_view l.item-items)) ≡ once l.names (names_in_items (items_view (drop l.item-index l.item-items)))

abbrev pub invariant-loop-key : goal.invariant-loop-key
invariant-loop-key l =
    once l.initial.names (names_in_members (members_view l.initial.key-iterator)) ≡ once l.names (names_in_members (members_view l.key-iterator))
