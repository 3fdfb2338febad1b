-- The numbers of an envelope (draft-ietf-suit-manifest-25, sections 8.2 to 8.4).
use Rattle.std.specs.Prelude.{◌≡◌, ◌⊎◌, ◌≤◌, ◌+◌, ◌-◌, ◌^◌, ℕ, List, length, min}
use Rattle.suit_c.specs.declared.reading.SuitEnvelope.{SuitEnvelope}
use Rattle.flash_layout.specs.ConfigPage.{padded}
use Rattle.suit_params.specs.declared.digest.Digest.{Digest}
use Rattle.suit_params.specs.DigestBytes.{digest_bytes, digest_kind}
use Rattle.suit_params.specs.DigestKinds.{size_of}
use Rattle.suit_envelope.specs.Envelopes.{EnvelopeSays}
use Rattle.suit_envelope.specs.Said.{EnvelopeOf, RefusesBytes}
use Rattle.suit_envelope.specs.Trimmed.{trimmed}
use Rattle.suit_envelope.specs.WrapperParts.{WrapperSays}
use Rattle.suit_manifest.specs.Manifests.{IsManifest, RefusesManifest}
use Rattle.suit_manifest.specs.declared.manifest.Manifest.{Manifest}
use Rattle.suit_params.specs.Refusing.{RefusesWhole, SaysWhole}
use Rattle.suit_params.specs.declared.refusal.Refusal.{Refusal}

-- the bytes spell an envelope, whose manifest is this one
pub record IsFile (bytes : List ℕ) (said : EnvelopeSays) (manifest : Manifest) : Type 0 where
  pub envelope : EnvelopeOf bytes said
  pub says : SaysWhole IsManifest said.manifest_place said.manifest manifest

-- these are the numbers of the envelope that the bytes spell
pub record IsReadAs (bytes : List ℕ) (numbers : SuitEnvelope) : Type 0 where
  pub said : EnvelopeSays
  pub manifest : Manifest
  pub file : IsFile bytes said manifest
  pub sequence : numbers.sequence ≡ manifest.sequence
  pub place : numbers.manifest_place ≡ said.manifest_place
  pub size : numbers.manifest_length ≡ length said.manifest
  pub short : numbers.trimmed_length
      ≡ min (length (trimmed said.wrapper said.manifest)) (2 ^ 64 - 1)
  pub digest : (stated : Digest) (blocks : List (List ℕ)) → WrapperSays said.wrapper stated blocks
      → (numbers.digest ≡ padded 64 (digest_bytes stated))
      × (numbers.digest_length ≡ size_of (digest_kind stated))
  pub components : numbers.components ≡ length manifest.components

-- the manifest is within the bytes
abbrev pub ManifestLiesIn : List ℕ → SuitEnvelope → Type 0
ManifestLiesIn bytes numbers = numbers.manifest_place + numbers.manifest_length ≤ length bytes

-- the bytes are refused as an envelope, or its manifest is refused
abbrev pub IsRefusedFor : List ℕ → Refusal → Type 0
IsRefusedFor bytes r =
    RefusesBytes bytes r
    ⊎ (said : EnvelopeSays) × EnvelopeOf bytes said
    × RefusesWhole RefusesManifest said.manifest_place said.manifest r

-- the bytes are refused at this place
abbrev pub IsRefusedAt : List ℕ → ℕ → Type 0
IsRefusedAt bytes place = (r : Refusal) × IsRefusedFor bytes r × (place ≡ r.place)
