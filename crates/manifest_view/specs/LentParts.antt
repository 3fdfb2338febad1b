-- What borrowed identifiers read in their bytes.
use Rattle.std.specs.Prelude.{ℕ, List, [], IsOk}
use Rattle.det_cbor.specs.Position.{Position}
use Rattle.suit_manifest.specs.Elements.{all_from}
use Rattle.suit_manifest.specs.ComponentsReading.{part_at, identifier_at}
use Rattle.suit_cursor.specs.LentParts.{read_or}

-- the n identifiers from a position on
abbrev pub lent_identifiers : ℕ → Position → List (List (List ℕ))
lent_identifiers n p = read_or [] (all_from identifier_at n p)

-- n identifiers can be read there
abbrev pub AreIdentifiers : ℕ → Position → Type 0
AreIdentifiers n p = IsOk (all_from identifier_at n p)

-- the n byte strings of an identifier from a position on
abbrev pub lent_parts : ℕ → Position → List (List ℕ)
lent_parts n p = read_or [] (all_from part_at n p)

-- n byte strings can be read there
abbrev pub AreParts : ℕ → Position → Type 0
AreParts n p = IsOk (all_from part_at n p)
