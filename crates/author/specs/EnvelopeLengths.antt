-- How long the contents are that an envelope holds besides its wrapper and its manifest.
use Rattle.std.specs.Prelude.{ℕ, ◌+◌, List, [], ◌∷◌, length, Option, Some, None}
use Rattle.suit_envelope.specs.declared.parts.EnvelopeParts.{EnvelopeParts}

abbrev pub member_length : Option (List ℕ) → ℕ
member_length None = 0
member_length (Some content) = length content

abbrev pub payloads_length : List (List ℕ × List ℕ) → ℕ
payloads_length [] = 0
payloads_length (p ∷ ps) = length p.1 + payloads_length ps

abbrev pub contents_length : EnvelopeParts → ℕ
contents_length parts =
    member_length parts.payload_fetch + member_length parts.install + member_length parts.text
    + payloads_length parts.payloads
