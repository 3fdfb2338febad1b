-- Component identifiers are read as they are written.
use Rattle.std.proofs.Common.{◌≡◌, ℕ, ◌≤◌, List, length, Ok, ap, ◌∙◌, arith}
use Rattle.std.proofs.lemmas.Bool.Decides.{nat_tests}
use Rattle.std.specs.List.{AllByRecursion}
use Rattle.det_cbor.specs.DataItem.{IsByte}
use Rattle.det_cbor.specs.HeadReading.{◌>>=◌}
use Rattle.json_fields.specs.Values.{hex_of}
use Rattle.suit_manifest.specs.Components.{IsShort}
use Rattle.author.specs.Identifiers.{short_identifier, identifier_of, some_identifiers, identifiers_of}
use Rattle.describe.specs.ValueData.{hex_data, identifier_data, identifiers_data}
use Rattle.describe.proofs.ValuesRead.{hex_read, array_read, all_of}

-- a component that has bytes, and few of them
abbrev pub IsReadable : List (List ℕ) → Type 0
IsReadable id = IsShort id × AllByRecursion (AllByRecursion IsByte) id

short_read : (id : List (List ℕ)) → IsShort id → short_identifier id ≡ Ok id
short_read id h = grind (arith, nat_tests)

identifier_read : (id : List (List ℕ)) → IsReadable id → identifier_of (identifier_data id) ≡ Ok id
identifier_read id h = ap (λ r. r >>= short_identifier) (array_read hex_of hex_data id (all_of _ _ hex_read id h.1)) ∙ short_read id h.0

some_read : (ids : List (List (List ℕ))) → 1 ≤ length ids → some_identifiers ids ≡ Ok ids
some_read ids h = grind (arith, nat_tests)

pub identifiers_read : (ids : List (List (List ℕ))) → 1 ≤ length ids → AllByRecursion IsReadable ids → identifiers_of (identifiers_data ids) ≡ Ok ids
identifiers_read ids some h =
    ap (λ r. r >>= some_identifiers) (array_read identifier_of identifier_data ids (all_of _ _ identifier_read ids h)) ∙ some_read ids some
