-- Refusals of single steps, behind what was met, as refusals of the whole.
use Rattle.std.proofs.Common.{◌≡◌, ◌≢◌, ℕ, List, refl, ◌<◌, ◌≤◌, ◌-◌, ◌^◌, arith, get_or, suc, [], ◌∷◌}
use Rattle.std.specs.List.{AllByRecursion}
use Rattle.det_cbor.specs.DataItem.{IsByte}
use Rattle.suit_commands.specs.Capped.{capped}
use Rattle.suit_envelope.specs.Envelopes.{EnvelopeSays}
use Rattle.suit_manifest.specs.declared.manifest.Manifest.{Manifest}
use Rattle.suit_manifest.specs.declared.members.MemberFault.{MemberFault}
use Rattle.suit_manifest.specs.declared.members.MemberFault.TheVariants as faults
use Rattle.suit_manifest.specs.MembersApart.{IsLackBy, LacksMembers}
use Rattle.suit_manifest.specs.Procedures.{invocation_tree, update_tree}
use Rattle.flash_layout.specs.declared.layout.Entry.{Entry}
use Rattle.flash_layout.specs.declared.place.Places.{Places}
use Rattle.flash_layout.specs.Placement.{ArePlaces, IsFirstUnknown}
use Rattle.admission.specs.declared.refusal.NotAdmitted.TheVariants as refusals
use Rattle.admission.specs.declared.refusal.NotOpened.{NotOpened}
use Rattle.admission.specs.declared.refusal.NotOpened.TheVariants as not_opened
use Rattle.admission.specs.declared.refusal.NotSafe.{NotSafe}
use Rattle.admission.specs.declared.refusal.NotSafe.TheVariants as not_safe
use Rattle.admission.specs.Opening.{IsManifestRefused}
use Rattle.admission.specs.Judging.{IsNotSafe}
use Rattle.admission.specs.Admission.{Admission, AreAuthentic, IsComplete, IsNotAdmitted, IsOffered}
use Rattle.admission.specs.Refusals.{of_members, of_opening, of_procedures}

-- the bytes of a slice
pub are_bytes : (bytes : List ℕ) → ((i : ℕ) → get_or bytes i 0 < 256) → AllByRecursion IsByte bytes
are_bytes [] all = tt
are_bytes (b ∷ bytes) all = (all 0, are_bytes bytes (λ i. all (suc i)))

-- ---- capped numbers beside a limit

pub above_limit : (w n from limit : ℕ) → w ≡ capped n → from ≡ limit → from < w → limit < n
unfolding capped
above_limit w n from limit is same above = omega (arith, is, same, above)

pub within_limit : (w n from limit : ℕ) → w ≡ capped n → from ≡ limit → limit < 2 ^ 64 - 1 → w ≤ from → n ≤ limit
unfolding capped
within_limit w n from limit is same small within = omega (arith, is, same, small, within)

-- ---- admission

module _ (limit : ℕ) (layout : List Entry) (key bytes : List ℕ) where
  pub manifest_not_admitted : (said : EnvelopeSays) → AreAuthentic limit key bytes said → (e : NotOpened) → IsManifestRefused said e → of_opening e ≢ refusals.NoMemory
      → IsNotAdmitted limit layout key bytes (of_opening e)
  manifest_not_admitted said are (not_opened.NoEnvelope r) x some = absurd x
  manifest_not_admitted said are (not_opened.TooLong size) x some = absurd x
  manifest_not_admitted said are (not_opened.NoManifest r) x some = record { said = said; are_authentic = are; refuses = x }
  manifest_not_admitted said are not_opened.NoMemory x some = absurd (some refl)

  pub component_not_admitted : (said : EnvelopeSays) (manifest : Manifest) → IsOffered limit key bytes said manifest → (component : ℕ)
      → IsFirstUnknown layout manifest.components component → IsNotAdmitted limit layout key bytes (refusals.UnknownComponent component)
  component_not_admitted said manifest offered component unknown = record { said = said; manifest = manifest; offered = offered; unknown = unknown }

  module _ (said : EnvelopeSays) (manifest : Manifest) (places : Places) (offered : IsOffered limit key bytes said manifest) (placed : ArePlaces layout manifest.components places) where
    pub members_not_admitted : (fault : MemberFault) → IsLackBy (LacksMembers said manifest) fault → of_members fault ≢ refusals.NoMemory
        → IsNotAdmitted limit layout key bytes (of_members fault)
    members_not_admitted (faults.Severed name) x some = record { said = said; manifest = manifest; places = places; offered = offered; placed = placed; lacks = x }
    members_not_admitted (faults.Differs name stated found) x some = record { said = said; manifest = manifest; places = places; offered = offered; placed = placed; lacks = x }
    members_not_admitted (faults.Refused r) x some = record { said = said; manifest = manifest; places = places; offered = offered; placed = placed; lacks = x }
    members_not_admitted faults.NoMemory x some = absurd (some refl)

  module _ (a : Admission) (complete : IsComplete limit layout key bytes a) where
    pub procedures_not_admitted : (e : NotSafe) → (e ≢ not_safe.NoMemory → IsNotSafe (update_tree a.manifest a.members) (invocation_tree a.manifest) e)
        → of_procedures e ≢ refusals.NoMemory → IsNotAdmitted limit layout key bytes (of_procedures e)
    procedures_not_admitted (not_safe.TooWide procedure width) x some =
        record { of = a; complete = complete; refuses = x (λ (same : not_safe.TooWide procedure width ≡ not_safe.NoMemory). absurd cc) }
    procedures_not_admitted (not_safe.Unsafe procedure path) x some =
        record { of = a; complete = complete; refuses = x (λ (same : not_safe.Unsafe procedure path ≡ not_safe.NoMemory). absurd cc) }
    procedures_not_admitted not_safe.NoMemory x some = absurd (some refl)
