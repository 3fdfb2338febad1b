-- How single values are written in a description.
use Rattle.std.specs.Prelude.{ℕ, List, map}
use Rattle.hex.specs.Hex.{encode_lower}
use Rattle.uuid.specs.Text.{hyphenated_text, lower}
use Rattle.serde_json.specs.Data.{Data, number, string, array, object, unsigned, no_members, member}
use Rattle.serde_json.specs.View.{items_of}

-- bytes, by two lower-case hexadecimal digits each
abbrev pub hex_data : List ℕ → Data
hex_data bytes = string (encode_lower bytes)

-- a UUID, with hyphens and lower-case digits (RFC 9562)
abbrev pub uuid_data : List ℕ → Data
uuid_data id = string (hyphenated_text lower id)

abbrev pub number_data : ℕ → Data
number_data n = number (unsigned n)

-- an array with an element for each value
abbrev pub array_data : {A : Type 0} → (A → Data) → List A → Data
array_data form xs = array (items_of (map form xs))

-- an object with one member
abbrev pub one_member : List ℕ → Data → Data
one_member key d = object (member key d no_members)

-- component identifiers are arrays of byte strings
abbrev pub identifier_data : List (List ℕ) → Data
identifier_data parts = array_data hex_data parts

abbrev pub identifiers_data : List (List (List ℕ)) → Data
identifiers_data ids = array_data identifier_data ids
