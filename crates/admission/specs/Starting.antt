-- Envelopes that may be started, and why others may not (draft-ietf-suit-manifest-25, sections 6.4 and 8.2 to 8.4). No
-- procedure is judged here, since that was done before the envelope was installed.
use Rattle.std.specs.Prelude.{ℕ, List}
use Rattle.suit_params.specs.declared.refusal.Refusal.{Refusal}
use Rattle.suit_envelope.specs.Authentic.{IsAuthentic}
use Rattle.suit_envelope.specs.Envelopes.{EnvelopeSays}
use Rattle.suit_envelope.specs.declared.authenticity.Authenticity.{Authenticity}
use Rattle.suit_manifest.specs.declared.manifest.Manifest.{Manifest}
use Rattle.flash_layout.specs.declared.layout.Entry.{Entry}
use Rattle.flash_layout.specs.declared.place.Places.{Places}
use Rattle.flash_layout.specs.Placement.{ArePlaces, IsFirstUnknown}
use Rattle.admission.specs.declared.refusal.NotStartable.{NotStartable}
use Rattle.admission.specs.declared.refusal.NotStartable.TheVariants as refusals
use Rattle.admission.specs.Opening.{HasManifest, HasNoManifest, Spell, SpellNone}
use Rattle.admission.specs.Admission.{IsUnauthentic}

-- the bytes spell an envelope that has this manifest
pub record SpellManifest (bytes : List ℕ) (said : EnvelopeSays) (manifest : Manifest) : Type 0 where
  pub spell : Spell bytes said
  pub says : HasManifest said manifest

-- the envelope of these bytes may be started: it is authentic, and the layout has the manifest's components
pub record IsStartable (layout : List Entry) (key bytes : List ℕ) (said : EnvelopeSays)
    (manifest : Manifest) (places : Places) : Type 0 where
  pub spell : SpellManifest bytes said manifest
  pub authentic : IsAuthentic said.wrapper said.manifest key
  pub placed : ArePlaces layout manifest.components places

-- the bytes spell an envelope whose manifest is refused
pub record SpellNoManifest (bytes : List ℕ) (r : Refusal) : Type 0 where
  pub said : EnvelopeSays
  pub spell : Spell bytes said
  pub refuses : HasNoManifest said r

-- the manifest is in order, but the envelope is not authentic
pub record IsStartUnauthentic (key bytes : List ℕ) (answer : Authenticity) : Type 0 where
  pub said : EnvelopeSays
  pub manifest : Manifest
  pub spell : SpellManifest bytes said manifest
  pub unauthentic : IsUnauthentic said key answer

-- the envelope is authentic, but the layout lacks this component first
pub record IsStartUnknown (layout : List Entry) (key bytes : List ℕ) (component : ℕ) : Type 0 where
  pub said : EnvelopeSays
  pub manifest : Manifest
  pub spell : SpellManifest bytes said manifest
  pub authentic : IsAuthentic said.wrapper said.manifest key
  pub unknown : IsFirstUnknown layout manifest.components component

-- why the envelope of these bytes may not be started: all that is judged earlier is met, and this is not
abbrev pub IsNotStartable : List Entry → List ℕ → List ℕ → NotStartable → Type 0
IsNotStartable layout key bytes (refusals.NoEnvelope r) = SpellNone bytes r
IsNotStartable layout key bytes (refusals.NoManifest r) = SpellNoManifest bytes r
IsNotStartable layout key bytes (refusals.NotAuthentic answer) = IsStartUnauthentic key bytes answer
IsNotStartable layout key bytes (refusals.UnknownComponent component) =
    IsStartUnknown layout key bytes component
