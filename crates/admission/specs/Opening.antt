-- Files that are opened: the envelope, within a limit of length, and its manifest (draft-ietf-suit-manifest-25,
-- sections 8.2 to 8.4).
use Rattle.std.specs.Prelude.{◌≡◌, ◌<◌, ◌≤◌, ℕ, List, length}
use Rattle.std.specs.List.{AllByRecursion}
use Rattle.det_cbor.specs.DataItem.{IsByte}
use Rattle.suit_params.specs.declared.refusal.Refusal.{Refusal}
use Rattle.suit_params.specs.Refusing.{SaysWhole, RefusesWhole}
use Rattle.suit_commands.specs.Capped.{capped}
use Rattle.suit_envelope.specs.Envelopes.{EnvelopeSays}
use Rattle.suit_envelope.specs.Said.{EnvelopeOf, RefusesBytes}
use Rattle.suit_envelope.specs.Trimmed.{trimmed}
use Rattle.suit_manifest.specs.declared.manifest.Manifest.{Manifest}
use Rattle.suit_manifest.specs.Manifests.{IsManifest, RefusesManifest}
use Rattle.admission.specs.declared.refusal.NotOpened.{NotOpened}
use Rattle.admission.specs.declared.refusal.NotOpened.TheVariants as refusals

-- ---- the envelope

-- the bytes of a file spell an envelope that says this
pub record Spell (bytes : List ℕ) (said : EnvelopeSays) : Type 0 where
  pub are_bytes : AllByRecursion IsByte bytes
  pub envelope : EnvelopeOf bytes said

-- the bytes of a file are refused as an envelope
pub record SpellNone (bytes : List ℕ) (r : Refusal) : Type 0 where
  pub are_bytes : AllByRecursion IsByte bytes
  pub refuses : RefusesBytes bytes r

-- the length in bytes of an envelope that is trimmed to its wrapper and manifest
abbrev pub trimmed_size : EnvelopeSays → ℕ
trimmed_size said = length (trimmed said.wrapper said.manifest)

-- the bytes spell an envelope whose trimmed length is within the limit
pub record IsWithin (limit : ℕ) (bytes : List ℕ) (said : EnvelopeSays) : Type 0 where
  pub spell : Spell bytes said
  pub short : trimmed_size said ≤ limit

-- the bytes spell an envelope whose trimmed length is above the limit, and this is that length
pub record IsAbove (limit : ℕ) (bytes : List ℕ) (size : ℕ) : Type 0 where
  pub said : EnvelopeSays
  pub spell : Spell bytes said
  pub long : limit < trimmed_size said
  pub size_is : size ≡ capped (trimmed_size said)

-- ---- its manifest

-- the bytes that the envelope holds spell this manifest
abbrev pub HasManifest : EnvelopeSays → Manifest → Type 0
HasManifest said manifest = SaysWhole IsManifest said.manifest_place said.manifest manifest

-- the bytes that the envelope holds are refused as a manifest
abbrev pub HasNoManifest : EnvelopeSays → Refusal → Type 0
HasNoManifest said r = RefusesWhole RefusesManifest said.manifest_place said.manifest r

-- ---- both

-- the bytes spell an envelope within the limit, and this is its manifest
pub record IsOpened (limit : ℕ) (bytes : List ℕ) (said : EnvelopeSays) (manifest : Manifest)
    : Type 0 where
  pub within : IsWithin limit bytes said
  pub says : HasManifest said manifest

-- the bytes spell an envelope within the limit, but its manifest is refused
pub record LacksManifest (limit : ℕ) (bytes : List ℕ) (r : Refusal) : Type 0 where
  pub said : EnvelopeSays
  pub within : IsWithin limit bytes said
  pub refuses : HasNoManifest said r

-- why a file is not opened: for the grammar of the envelope, its length, or the grammar of the manifest
abbrev pub IsNotOpened : ℕ → List ℕ → NotOpened → Type 0
IsNotOpened limit bytes (refusals.NoEnvelope r) = SpellNone bytes r
IsNotOpened limit bytes (refusals.TooLong size) = IsAbove limit bytes size
IsNotOpened limit bytes (refusals.NoManifest r) = LacksManifest limit bytes r
IsNotOpened limit bytes refusals.NoMemory = ⊥

-- ---- single steps

-- why the bytes are not an envelope within the limit
abbrev pub IsNotWithin : ℕ → List ℕ → NotOpened → Type 0
IsNotWithin limit bytes (refusals.NoEnvelope r) = SpellNone bytes r
IsNotWithin limit bytes (refusals.TooLong size) = IsAbove limit bytes size
IsNotWithin limit bytes _ = ⊥

-- why the envelope's manifest is not decoded; memory may have run out
abbrev pub IsManifestRefused : EnvelopeSays → NotOpened → Type 0
IsManifestRefused said (refusals.NoManifest r) = HasNoManifest said r
IsManifestRefused said refusals.NoMemory = Unit {0}
IsManifestRefused said _ = ⊥
