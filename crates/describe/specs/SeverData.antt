-- The severed members that are there, in the order of their numbers in an envelope: by name for SHA-256, or else by
-- name and hash function.
use Rattle.std.specs.Prelude.{ℕ, Bool, true, false, List, codes, Option, Some, None}
use Rattle.serde_json.specs.Data.{Data, string, array, Items, no_items, item}
use Rattle.suit_params.specs.declared.digest_kind.DigestKind.{DigestKind}
use Rattle.suit_params.specs.declared.digest_kind.DigestKind.TheVariants as kinds
use Rattle.author.specs.declared.severing.Severed.{Severed}

abbrev pub pair_data : List ℕ → List ℕ → Data
pair_data name algorithm = array (item (string name) (item (string algorithm) no_items))

abbrev pub entry_data : List ℕ → DigestKind → Data
entry_data name kinds.Sha256 = string name
entry_data name kinds.Sha384 = pair_data name (codes "sha384")
entry_data name kinds.Sha512 = pair_data name (codes "sha512")

abbrev pub entry_if : Bool → List ℕ → DigestKind → Items → Items
entry_if true name kind entries = item (entry_data name kind) entries
entry_if false name kind entries = entries

abbrev pub severed_names : Severed → Items
severed_names s =
    entry_if s.payload_fetch (codes "payload-fetch") s.kinds.payload_fetch
    (entry_if s.install (codes "install") s.kinds.install
    (entry_if s.text (codes "text") s.kinds.text no_items))

-- the array is left out if it is empty
abbrev pub sever_data : Items → Option Data
sever_data no_items = None
sever_data (item d ds) = Some (array (item d ds))
