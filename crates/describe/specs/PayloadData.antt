-- Integrated payloads in a description: an object from keys to `{"hex": HEX}`.
use Rattle.std.specs.Prelude.{ℕ, List, [], ◌∷◌, codes, Option, Some, None}
use Rattle.serde_json.specs.Data.{Data, object, Members, no_members, put}
use Rattle.describe.specs.ValueData.{hex_data, one_member}

abbrev pub payload_data : List ℕ → Data
payload_data content = one_member (codes "hex") (hex_data content)

-- the payloads are added, each under its key, to the members that are there
abbrev pub with_payloads : List (List ℕ × List ℕ) → Members → Members
with_payloads [] ms = ms
with_payloads (p ∷ ps) ms = with_payloads ps (put p.0 (payload_data p.1) ms)

-- the object is left out if there are no payloads
abbrev pub payloads_data : List (List ℕ × List ℕ) → Option Data
payloads_data [] = None
payloads_data (p ∷ ps) = Some (object (with_payloads (p ∷ ps) no_members))
