-- Where `show FILE` stops, and with which reply.
use Rattle.std.specs.Prelude.{ℕ, List}
use Rattle.suit_envelope.specs.Envelopes.{EnvelopeSays}
use Rattle.suit_manifest.specs.declared.manifest.Manifest.{Manifest}
use Rattle.suit_manifest.specs.declared.manifest.Members.{Members}
use Rattle.suit_manifest.specs.MembersApart.{HasMembers}
use Rattle.describe.specs.MembersThere.{only_there}
use Rattle.suit_cli.specs.declared.reply.Reply.{Reply}
use Rattle.suit_cli.specs.Outside.{Outside}
use Rattle.suit_cli.specs.Envelopes.{IsLack}
use Rattle.suit_cli.specs.Holding.{HasManifest}
use Rattle.suit_cli.specs.Describing.{TextDiffers, IsOtherText, IsDescribed}
use Rattle.suit_cli.specs.CommandCauses.{NoManifest}

-- the first of these stops it
pub data DescribingSays (name : List ℕ) (before : Outside) (reply : Reply) : Type 0 where
  BeforeMembers : NoManifest name before reply → DescribingSays name before reply
  -- status 17, `member NAME differs`, or 3, `refused at P: WHY`
  AtMembers : (said : EnvelopeSays) (manifest : Manifest) → HasManifest name before said manifest
      → IsLack said (only_there said manifest) reply → DescribingSays name before reply
  -- status 17, `member text differs`
  AtText : (said : EnvelopeSays) (manifest : Manifest) (members : Members)
      → HasManifest name before said manifest → HasMembers said (only_there said manifest) members
      → IsOtherText said manifest reply → DescribingSays name before reply
  -- status 0, and the description
  AtDescription :
      (said : EnvelopeSays) (manifest : Manifest) (members : Members)
      (has : HasManifest name before said manifest)
      → HasMembers said (only_there said manifest) members → (TextDiffers said manifest.text → ⊥)
      → IsDescribed has.in_envelope.bytes said manifest members reply
      → DescribingSays name before reply
