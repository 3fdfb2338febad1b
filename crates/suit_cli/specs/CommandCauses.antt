-- Where `check FILE` stops, and with which reply.
use Rattle.std.specs.Prelude.{◌≡◌, ◌⊎◌, ℕ, List}
use Rattle.suit_commands.specs.Tree.{PlanTree}
use Rattle.suit_envelope.specs.Envelopes.{EnvelopeSays}
use Rattle.suit_envelope.specs.Said.{RefusesBytes}
use Rattle.suit_manifest.specs.declared.manifest.Manifest.{Manifest}
use Rattle.suit_manifest.specs.declared.manifest.Members.{Members}
use Rattle.suit_manifest.specs.MembersApart.{HasMembers}
use Rattle.suit_manifest.specs.Procedures.{update_tree, invocation_tree}
use Rattle.suit_cli.specs.declared.reply.Reply.{Reply}
use Rattle.suit_cli.specs.declared.reply.Outcome.TheVariants as outcomes
use Rattle.suit_cli.specs.Outside.{Outside}
use Rattle.suit_cli.specs.Inputs.{longest_file, longest_shown, IsRead, IsUnread}
use Rattle.suit_cli.specs.Envelopes.{AreBytes, IsRefused, IsShort, IsLong, RefusesItsManifest, IsLack}
use Rattle.suit_cli.specs.Judgement.{IsNarrow, IsWide, AreJudged}
use Rattle.suit_cli.specs.Holding.{HasEnvelope, HasManifest, HasProcedures}

-- ---- up to the manifest: the first of these stops it

pub data NoManifest (name : List ℕ) (before : Outside) (reply : Reply) : Type 0 where
  -- status 20, `absent NAME`, or 21, `too long NAME`
  AtFile : IsUnread longest_file name before reply → NoManifest name before reply
  -- status 3, `refused at P: WHY`
  AtEnvelope : (bytes : List ℕ) → IsRead longest_file name before bytes → AreBytes bytes
      → IsRefused (RefusesBytes bytes) reply → NoManifest name before reply
  -- status 21, `too long envelope`
  AtLength : (said : EnvelopeSays) → HasEnvelope name before said → IsLong longest_shown said reply
      → NoManifest name before reply
  -- status 3, `refused at P: WHY`
  AtManifest : (said : EnvelopeSays) → HasEnvelope name before said → IsShort longest_shown said
      → IsRefused (RefusesItsManifest said) reply → NoManifest name before reply

-- ---- `check FILE`

pub data CheckSays (name : List ℕ) (before : Outside) (reply : Reply) : Type 0 where
  BeforeMembers : NoManifest name before reply → CheckSays name before reply
  -- status 16, `severed NAME`, 17, `member NAME differs`, or 3, `refused at P: WHY`
  AtMembers : (said : EnvelopeSays) (manifest : Manifest) → HasManifest name before said manifest
      → IsLack said manifest reply → CheckSays name before reply
  -- status 12, `too wide: N`
  AtUpdateWidth : (said : EnvelopeSays) (manifest : Manifest) (members : Members)
      → HasManifest name before said manifest → HasMembers said manifest members
      → IsWide (update_tree manifest members) reply → CheckSays name before reply
  AtInvocationWidth : (said : EnvelopeSays) (manifest : Manifest) (members : Members)
      → HasManifest name before said manifest → HasMembers said manifest members
      → IsNarrow (update_tree manifest members) → IsWide (invocation_tree manifest) reply
      → CheckSays name before reply
  -- status 0, `update safe` and `invocation safe`, or 1 with the lines of a path
  AtPaths : (update invocation : PlanTree) → HasProcedures name before update invocation
      → AreJudged update invocation reply → CheckSays name before reply

-- two replies are one, but for the path that is printed
abbrev pub SameButPath : Reply → Reply → Type 0
SameButPath reply other =
    (other ≡ reply) ⊎ ((reply.outcome ≡ outcomes.Unsafe) × (other.outcome ≡ outcomes.Unsafe))
