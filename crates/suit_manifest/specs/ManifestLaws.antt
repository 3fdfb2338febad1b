-- Laws of all manifests.
use Rattle.std.specs.Prelude.{◌≡◌, ◌⊎◌, ◌<◌, ℕ, List, [], ◌∷◌}
use Rattle.std.specs.List.{AllByRecursion}
use Rattle.det_cbor.specs.DataItem.{DataItem, UnsignedInteger, MapOf, DataPairs, spell, IsValid}
use Rattle.suit_params.specs.OneWhole.{HasOneAnswer}
use Rattle.suit_params.specs.Refusing.{SaysWhole}
use Rattle.suit_manifest.specs.declared.manifest.Manifest.{Manifest}
use Rattle.suit_envelope.specs.Envelopes.{Entry}
use Rattle.suit_manifest.specs.JustOne.{HoldsOfOne}
use Rattle.suit_manifest.specs.Maps.{entries_of}
use Rattle.suit_manifest.specs.Manifests.{IsManifest, RefusesManifest}
use Rattle.suit_manifest.specs.ManifestMaking.{manifest_item, placed_manifest, unplaced_manifest}
use Rattle.suit_manifest.specs.ManifestWriting.{IsGrammatical}

-- the item says exactly one manifest, and has no refusal
abbrev pub HasOneManifest : ℕ → DataItem → Type 0
HasOneManifest place x = HoldsOfOne (IsManifest place x) (RefusesManifest place x)

-- the item has exactly one refusal, and says no manifest
abbrev pub HasOneRefusal : ℕ → DataItem → Type 0
HasOneRefusal place x = HoldsOfOne (RefusesManifest place x) (IsManifest place x)

-- ---- the numbers of a map's keys ascend, so values that are judged by number are judged in the order of
-- their bytes

abbrev pub IsAboveNumber : ℕ → Entry → Type 0
IsAboveNumber n e = (m : ℕ) → e.key ≡ UnsignedInteger m → n < m

abbrev pub NumbersAscend : List Entry → Type 0
NumbersAscend [] = Unit {0}
NumbersAscend (e ∷ es) =
    ((n : ℕ) → e.key ≡ UnsignedInteger n → AllByRecursion (IsAboveNumber n) es) × NumbersAscend es

-- Each valid item says exactly one manifest or has exactly one refusal, and never both; so do any bytes. Each
-- manifest that is said is allowed by the grammar. The item that says it is the one that it is written as,
-- its places are those in that item's spelling, and bytes that say it are that spelling. Manifests that
-- differ only in their places are written alike. The keys of a map are in order.
pub record ManifestLaws : Type 0 where
  pub one_reading : (place : ℕ) (x : DataItem) → IsValid x
      → HasOneManifest place x ⊎ HasOneRefusal place x
  pub grammatical : (place : ℕ) (x : DataItem) (m : Manifest) → IsManifest place x m
      → IsGrammatical m
  pub whole : HasOneAnswer IsManifest RefusesManifest
  pub made : (place : ℕ) (x : DataItem) (m : Manifest) → IsValid x → IsManifest place x m
      → x ≡ manifest_item m
  pub places : (place : ℕ) (x : DataItem) (m : Manifest) → IsValid x → IsManifest place x m
      → m ≡ placed_manifest place m
  pub again : (place : ℕ) (bytes : List ℕ) (m : Manifest) → SaysWhole IsManifest place bytes m
      → bytes ≡ spell (manifest_item m)
  pub one_item : (m n : Manifest) → unplaced_manifest m ≡ unplaced_manifest n
      → manifest_item m ≡ manifest_item n
  pub ordered : (place : ℕ) (pairs : DataPairs) → IsValid (MapOf pairs)
      → NumbersAscend (entries_of place pairs)
