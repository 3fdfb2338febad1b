use Rattle.std.proofs.Common.{◌≡◌, ◌++◌, drop}
use Rattle.std.specs.List.{AllByRecursion}
use Rattle.det_cbor.specs.DataItem.{spell_items}
use Rattle.suit_manifest.specs.Components.{identifier_items}
use Rattle.suit_manifest.specs.ManifestWriting.{IdentifierFits}
use Rattle.suit_manifest.proofs.encode_components.push_identifiers.Given as goal

-- the bytes written so far and the spelling of the rest are the whole spelling, and the rest decides
abbrev pub invariant-loop-identifier : goal.invariant-loop-identifier
invariant-loop-identifier l =
    (l.out ++ spell_items (identifier_items (drop l.identifier-index l.identifiers)) ≡ l.fn.out ++ spell_items (identifier_items l.identifiers))
    × (AllByRecursion IdentifierFits (drop l.identifier-index l.identifiers) → AllByRecursion IdentifierFits l.identifiers)
