-- Laws of all descriptions, whatever bytes their files have.
use Rattle.std.specs.Prelude.{◌≡◌, ℕ, List, Some, None, Ok, length}
use Rattle.serde_json.specs.Data.{Data}
use Rattle.serde_json.specs.Read.{read}
use Rattle.suit_envelope.specs.PayloadOrder.{AreAscending}
use Rattle.suit_manifest.specs.ManifestWriting.{ManifestFits, IsGrammatical}
use Rattle.author.specs.declared.fields.Described.{Described}
use Rattle.author.specs.Descriptions.{described}
use Rattle.author.specs.Faults.{IsDescription}
use Rattle.author.specs.GivenParts.{HasPartsOf}
use Rattle.author.specs.KeysOnce.{HasKeysOnce}
use Rattle.author.specs.MadeMembers.{IsAllowedMember}
use Rattle.author.specs.Making.{made_manifest}

-- a description stands for something; the grammar allows its manifest, if that fits the types of the code, and each
-- member that may be severed; and the keys of its payloads ascend in the order of their spellings
pub record DescriptionLaws : Type 0 where
  pub some : (d : Data) (files : List (List ℕ × List ℕ)) → IsDescription d
      → (p : Described) × (described files d ≡ Ok p)
  pub grammatical : (d : Data) (files : List (List ℕ × List ℕ)) (p : Described) → IsDescription d
      → described files d ≡ Ok p
      → ManifestFits (made_manifest p) → IsGrammatical (made_manifest p)
  pub members : (d : Data) (files : List (List ℕ × List ℕ)) (p : Described) → IsDescription d
      → described files d ≡ Ok p
      → IsAllowedMember (length p.manifest.components) p.manifest.payload_fetch
      × IsAllowedMember (length p.manifest.components) p.manifest.install
  pub payloads : (d : Data) (files : List (List ℕ × List ℕ)) (p : Described)
      → described files d ≡ Ok p → AreAscending None p.payloads
  -- no object in what is read from a text has a key twice
  pub once : (text : List ℕ) (d : Data) → read text ≡ Some d → HasKeysOnce d
  -- if no object has a key twice, the payloads, the severed members and the key's identifier are those of the value
  pub parts : (d : Data) (files : List (List ℕ × List ℕ)) (p : Described) → HasKeysOnce d
      → described files d ≡ Ok p → HasPartsOf d files p
