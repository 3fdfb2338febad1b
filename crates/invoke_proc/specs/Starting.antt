-- The manifest that the bytes in a record's bank start, or why they start none, as admission judges them
-- (draft-ietf-suit-manifest-25, sections 8.2 to 8.4).
use Rattle.std.specs.Prelude.{◌≡◌, ◌⊎◌, ℕ, List}
use Rattle.suit_params.specs.declared.refusal.Refusal.{Refusal}
use Rattle.suit_envelope.specs.declared.authenticity.Authenticity.{Authenticity}
use Rattle.suit_envelope.specs.declared.authenticity.Authenticity.TheVariants as answers
use Rattle.suit_envelope.specs.Envelopes.{EnvelopeSays}
use Rattle.suit_manifest.specs.declared.manifest.Manifest.{Manifest}
use Rattle.flash_layout.specs.declared.layout.Entry.{Entry}
use Rattle.flash_layout.specs.declared.place.Places.{Places}
use Rattle.admission.specs.declared.refusal.NotStartable.{NotStartable}
use Rattle.admission.specs.declared.refusal.NotStartable.TheVariants as refusals
use Rattle.admission.specs.Opening.{SpellNone}
use Rattle.admission.specs.Starting.{IsStartUnauthentic, IsStartUnknown, IsStartable, SpellNoManifest}
use Rattle.invoke_proc.specs.declared.boot_end.BootEnd.{BootEnd}
use Rattle.invoke_proc.specs.declared.boot_end.BootEnd.TheVariants as ends
use Rattle.invoke_proc.specs.declared.boot_end.Lacking.{Lacking}
use Rattle.invoke_proc.specs.declared.boot_end.Lacking.TheVariants as lacks

-- ---- the start

-- the bytes start this manifest: it is authentic, and the layout has its components
abbrev pub IsStarted : List Entry → List ℕ → List ℕ → EnvelopeSays → Manifest → Type 0
IsStarted layout key bytes said manifest =
    (places : Places) × IsStartable layout key bytes said manifest places

-- ---- why nothing is started

-- the bytes are refused as an envelope, or its manifest is refused
abbrev pub IsBad : List ℕ → Refusal → Type 0
IsBad bytes r = SpellNone bytes r ⊎ SpellNoManifest bytes r

-- why an envelope is not authentic, without the values
abbrev pub lacking_in : Authenticity → Lacking
lacking_in (answers.DigestDiffers stated found) = lacks.DigestDiffers
lacking_in (answers.MacDiffers expected found) = lacks.MacDiffers
lacking_in _ = lacks.NoMac

-- the envelope is not authentic under the key, for this reason
abbrev pub IsUnauthentic : List ℕ → List ℕ → Lacking → Type 0
IsUnauthentic key bytes lacking =
    (answer : Authenticity) × (lacking_in answer ≡ lacking) × IsStartUnauthentic key bytes answer

-- the layout lacks this component of the manifest first
abbrev pub IsUnknown : List Entry → List ℕ → List ℕ → ℕ → Type 0
IsUnknown layout key bytes component = IsStartUnknown layout key bytes component

-- why the bytes start nothing: the first thing that is wrong
abbrev pub IsDeclined : List Entry → List ℕ → List ℕ → BootEnd → Type 0
IsDeclined layout key bytes (ends.BadBank r) = IsBad bytes r
IsDeclined layout key bytes (ends.NotAuthentic lacking) = IsUnauthentic key bytes lacking
IsDeclined layout key bytes (ends.UnknownComponent component) = IsUnknown layout key bytes component
IsDeclined layout key bytes _ = ⊥

-- ---- what the code returns

abbrev pub declined_as : NotStartable → BootEnd
declined_as (refusals.NoEnvelope r) = ends.BadBank r
declined_as (refusals.NoManifest r) = ends.BadBank r
declined_as (refusals.NotAuthentic answer) = ends.NotAuthentic (lacking_in answer)
declined_as (refusals.UnknownComponent component) = ends.UnknownComponent component
