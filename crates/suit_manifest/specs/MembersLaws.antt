-- Laws of severed members, whichever function takes them.
use Rattle.std.specs.Prelude.{◌⊎◌, ℕ, List}
use Rattle.suit_envelope.specs.Envelopes.{EnvelopeSays}
use Rattle.suit_envelope.specs.Said.{EnvelopeOf}
use Rattle.suit_manifest.specs.declared.manifest.Manifest.{Manifest}
use Rattle.suit_manifest.specs.JustOne.{HoldsOfOne}
use Rattle.suit_manifest.specs.MembersApart.{HasMembers, LacksMembers}

-- there is exactly one answer, and no fault
abbrev pub HasOneAnswer : EnvelopeSays → Manifest → Type 0
HasOneAnswer said manifest = HoldsOfOne (HasMembers said manifest) (LacksMembers said manifest)

-- there is exactly one fault, and no answer
abbrev pub HasOneFault : EnvelopeSays → Manifest → Type 0
HasOneFault said manifest = HoldsOfOne (LacksMembers said manifest) (HasMembers said manifest)

-- for each manifest, an envelope gives exactly one answer or has exactly one fault, and never both
pub record MembersLaws : Type 0 where
  pub one_answer : (bytes : List ℕ) (said : EnvelopeSays) (manifest : Manifest)
      → EnvelopeOf bytes said → HasOneAnswer said manifest ⊎ HasOneFault said manifest
