use Rattle.std.proofs.Common.{◌≡◌, ◌++◌, drop}
use Rattle.std.specs.List.{AllByRecursion}
use Rattle.det_cbor.specs.DataItem.{spell_items, IsString}
use Rattle.suit_manifest.specs.Components.{string_items}
use Rattle.suit_manifest.proofs.encode_components.push_parts.Given as goal

-- the bytes written so far and the spelling of the rest are the whole spelling, and the rest decides
abbrev pub invariant-loop-part : goal.invariant-loop-part
invariant-loop-part l =
    (l.out ++ spell_items (string_items (drop l.part-index l.parts)) ≡ l.fn.out ++ spell_items (string_items l.parts))
    × (AllByRecursion IsString (drop l.part-index l.parts) → AllByRecursion IsString l.parts)
