-- Envelopes that may be installed, and why others may not (draft-ietf-suit-manifest-25, section 6): their authenticity,
-- the layout, the severed members, and both procedures, in the order in which they are judged.
use Rattle.std.specs.Prelude.{◌≢◌, ℕ, List}
use Rattle.suit_params.specs.declared.digest.Digest.{Digest}
use Rattle.suit_params.specs.declared.refusal.Refusal.{Refusal}
use Rattle.suit_envelope.specs.Authentic.{AnswersAuthentic, IsAuthentic}
use Rattle.suit_envelope.specs.Envelopes.{EnvelopeSays}
use Rattle.suit_envelope.specs.Said.{said_by}
use Rattle.suit_envelope.specs.WrapperParts.{WrapperSays}
use Rattle.suit_envelope.specs.declared.authenticity.Authenticity.{Authenticity}
use Rattle.suit_envelope.specs.declared.authenticity.Authenticity.TheVariants.{Yes}
use Rattle.suit_manifest.specs.declared.manifest.Manifest.{Manifest}
use Rattle.suit_manifest.specs.declared.manifest.Members.{Members}
use Rattle.suit_manifest.specs.declared.members.MemberFault.{MemberFault}
use Rattle.suit_manifest.specs.declared.members.MemberFault.TheVariants as faults
use Rattle.suit_manifest.specs.MembersApart.{HasMembers, LacksMembers}
use Rattle.suit_manifest.specs.Procedures.{invocation_tree, update_tree}
use Rattle.flash_layout.specs.declared.layout.Entry.{Entry}
use Rattle.flash_layout.specs.declared.place.Places.{Places}
use Rattle.flash_layout.specs.Placement.{ArePlaces, IsFirstUnknown}
use Rattle.admission.specs.declared.admitting.Admitted.{Admitted}
use Rattle.admission.specs.declared.refusal.NotAdmitted.{NotAdmitted}
use Rattle.admission.specs.declared.refusal.NotAdmitted.TheVariants as refusals
use Rattle.admission.specs.declared.refusal.NotSafe.{NotSafe}
use Rattle.admission.specs.declared.refusal.NotSafe.TheVariants as not_safe
use Rattle.admission.specs.Opening.{HasManifest, HasNoManifest, IsAbove, IsWithin, SpellNone}
use Rattle.admission.specs.Judging.{AreSafe, IsNotSafe}

-- ---- authenticity under a key

-- the envelope is not authentic under the key, and this is the answer that says why
pub record IsUnauthentic (said : EnvelopeSays) (key : List ℕ) (answer : Authenticity) : Type 0 where
  pub lacking : answer ≢ Yes
  pub answers : (digest : Digest) (blocks : List (List ℕ)) → WrapperSays said.wrapper digest blocks
      → AnswersAuthentic digest blocks said.manifest key answer

-- ---- what is met, in order

-- the bytes spell an envelope that is within the limit and authentic under the key
pub record AreAuthentic (limit : ℕ) (key bytes : List ℕ) (said : EnvelopeSays) : Type 0 where
  pub within : IsWithin limit bytes said
  pub authentic : IsAuthentic said.wrapper said.manifest key

-- the same, and this is the envelope's manifest
pub record IsOffered (limit : ℕ) (key bytes : List ℕ) (said : EnvelopeSays) (manifest : Manifest)
    : Type 0 where
  pub are_authentic : AreAuthentic limit key bytes said
  pub says : HasManifest said manifest

-- what is admitted: an envelope, its manifest, where the layout has the manifest's components, and the severed members
pub record Admission : Type 0 where
  pub said : EnvelopeSays
  pub manifest : Manifest
  pub places : Places
  pub members : Members

-- the same, and the layout has the components, and the severed members are in the envelope and have the stated digests
pub record IsComplete (limit : ℕ) (layout : List Entry) (key bytes : List ℕ) (a : Admission)
    : Type 0 where
  pub offered : IsOffered limit key bytes a.said a.manifest
  pub placed : ArePlaces layout a.manifest.components a.places
  pub members : HasMembers a.said a.manifest a.members

-- the envelope of these bytes may be installed: all of that is met, and both its procedures are safe
pub record IsAdmitted (limit : ℕ) (layout : List Entry) (key bytes : List ℕ) (a : Admission)
    : Type 0 where
  pub complete : IsComplete limit layout key bytes a
  pub safe : AreSafe (update_tree a.manifest a.members) (invocation_tree a.manifest)

-- ---- what is the first that is not met

-- the envelope is within the limit, but not authentic
pub record IsAuthenticityRefused (limit : ℕ) (key bytes : List ℕ) (answer : Authenticity)
    : Type 0 where
  pub said : EnvelopeSays
  pub within : IsWithin limit bytes said
  pub unauthentic : IsUnauthentic said key answer

-- the envelope is authentic, but its manifest is refused
pub record IsAuthenticWithout (limit : ℕ) (key bytes : List ℕ) (r : Refusal) : Type 0 where
  pub said : EnvelopeSays
  pub are_authentic : AreAuthentic limit key bytes said
  pub refuses : HasNoManifest said r

-- the manifest is offered, but the layout lacks this component first
pub record LacksComponent (limit : ℕ) (layout : List Entry) (key bytes : List ℕ) (component : ℕ)
    : Type 0 where
  pub said : EnvelopeSays
  pub manifest : Manifest
  pub offered : IsOffered limit key bytes said manifest
  pub unknown : IsFirstUnknown layout manifest.components component

-- the layout has the components, but a severed member is missing, has another digest or is refused
pub record LacksMember (limit : ℕ) (layout : List Entry) (key bytes : List ℕ) (fault : MemberFault)
    : Type 0 where
  pub said : EnvelopeSays
  pub manifest : Manifest
  pub places : Places
  pub offered : IsOffered limit key bytes said manifest
  pub placed : ArePlaces layout manifest.components places
  pub lacks : LacksMembers said manifest fault

-- the severed members are in order, but the procedures must not be run
pub record LacksSafety (limit : ℕ) (layout : List Entry) (key bytes : List ℕ) (refusal : NotSafe)
    : Type 0 where
  pub of : Admission
  pub complete : IsComplete limit layout key bytes of
  pub refuses : IsNotSafe (update_tree of.manifest of.members) (invocation_tree of.manifest) refusal

-- why the envelope of these bytes may not be installed: all that is judged earlier is met, and this is not
abbrev pub IsNotAdmitted : ℕ → List Entry → List ℕ → List ℕ → NotAdmitted → Type 0
IsNotAdmitted limit layout key bytes (refusals.NoEnvelope r) = SpellNone bytes r
IsNotAdmitted limit layout key bytes (refusals.TooLong size) = IsAbove limit bytes size
IsNotAdmitted limit layout key bytes (refusals.NotAuthentic answer) =
    IsAuthenticityRefused limit key bytes answer
IsNotAdmitted limit layout key bytes (refusals.NoManifest r) = IsAuthenticWithout limit key bytes r
IsNotAdmitted limit layout key bytes (refusals.UnknownComponent component) =
    LacksComponent limit layout key bytes component
IsNotAdmitted limit layout key bytes (refusals.Severed name) =
    LacksMember limit layout key bytes (faults.Severed name)
IsNotAdmitted limit layout key bytes (refusals.Differs name stated found) =
    LacksMember limit layout key bytes (faults.Differs name stated found)
IsNotAdmitted limit layout key bytes (refusals.NoSequence r) =
    LacksMember limit layout key bytes (faults.Refused r)
IsNotAdmitted limit layout key bytes (refusals.TooWide procedure width) =
    LacksSafety limit layout key bytes (not_safe.TooWide procedure width)
IsNotAdmitted limit layout key bytes (refusals.Unsafe procedure path) =
    LacksSafety limit layout key bytes (not_safe.Unsafe procedure path)
IsNotAdmitted limit layout key bytes refusals.NoMemory = ⊥

-- ---- what the code returns

abbrev pub admission_of : Admitted → Admission
admission_of a = record {
  said = said_by a.envelope;
  manifest = a.manifest;
  places = a.places;
  members = a.members;
}
