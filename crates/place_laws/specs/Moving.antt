-- An item says the same at each place, but for places.
use Rattle.std.specs.Prelude.{ℕ, List}
use Rattle.det_cbor.specs.DataItem.{DataItem}
use Rattle.suit_params.specs.Refusing.{SaysWhole}
use Rattle.suit_manifest.specs.declared.manifest.Manifest.{Manifest}
use Rattle.suit_manifest.specs.Manifests.{IsManifest}
use Rattle.place_laws.specs.PlacesApart.{SameManifest}

-- an item that says a manifest at one place says it at each other place, but for places
abbrev pub ManifestMoves : Type 0
ManifestMoves =
    (p q : ℕ) (x : DataItem) (m : Manifest) → IsManifest p x m
    → (n : Manifest) × IsManifest q x n × SameManifest m n

-- bytes that say a manifest at one place say it at each other place, but for places
abbrev pub WholeMoves : Type 0
WholeMoves =
    (p q : ℕ) (bytes : List ℕ) (m : Manifest) → SaysWhole IsManifest p bytes m
    → (n : Manifest) × SaysWhole IsManifest q bytes n × SameManifest m n
