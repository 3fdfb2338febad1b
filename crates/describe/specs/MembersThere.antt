-- The severed members that the envelope holds.
use Rattle.std.specs.Prelude.{ℕ, List, Option, Some, None}
use Rattle.suit_envelope.specs.Envelopes.{EnvelopeSays}
use Rattle.suit_manifest.specs.declared.manifest.Manifest.{Manifest}
use Rattle.suit_manifest.specs.declared.manifest.Member.{Member}
use Rattle.suit_manifest.specs.declared.manifest.Member.TheVariants.{Empty, Apart}
use Rattle.suit_manifest.specs.declared.manifest.TextMember.TheVariants as texts

-- a severed member, if it is held
abbrev pub if_held : Option (List ℕ) → Member → Member
if_held (Some content) (Apart stated) = Apart stated
if_held _ _ = Empty

-- the manifest with only those members: `members_of` tells of these, and of no others
abbrev pub only_there : EnvelopeSays → Manifest → Manifest
only_there said m =
    record m {
      shared = None;
      reference = None;
      validate = None;
      load = None;
      invoke = None;
      payload_fetch = if_held said.payload_fetch m.payload_fetch;
      install = if_held said.install m.install;
      text = texts.Empty;
    }
