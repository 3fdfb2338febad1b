use Rattle.std.proofs.Common.{◌≡◌, ◌++◌, drop}
use Rattle.det_cbor.specs.DataItem.{spell_items}
use Rattle.suit_manifest.specs.Components.{string_items}
use Rattle.author.proofs.identifiers.push_strings.Given as goal

abbrev pub invariant-loop-part : goal.invariant-loop-part
invariant-loop-part l = l.out ++ spell_items (string_items (drop l.part-index l.parts)) ≡ l.initial.out ++ spell_items (string_items l.parts)
