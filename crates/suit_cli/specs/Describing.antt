-- The stages of `show FILE`: the description of an envelope, as one line of JSON (RFC 8259).
use Rattle.std.specs.Prelude.{◌≡◌, ◌≢◌, ℕ, List, ◌++◌, Some, codes}
use Rattle.serde_json.specs.Written.{compact_text}
use Rattle.suit_envelope.specs.Envelopes.{EnvelopeSays}
use Rattle.suit_envelope.specs.Members.{string_like}
use Rattle.suit_envelope.specs.Payloads.{HasPayloads}
use Rattle.suit_envelope.specs.declared.severed.MemberName.TheVariants as names
use Rattle.suit_manifest.specs.declared.manifest.Manifest.{Manifest}
use Rattle.suit_manifest.specs.declared.manifest.Members.{Members}
use Rattle.suit_manifest.specs.declared.manifest.TextMember.{TextMember}
use Rattle.suit_manifest.specs.declared.manifest.TextMember.TheVariants as texts
use Rattle.describe.specs.Describing.{described_by}
use Rattle.describe.specs.MembersThere.{only_there}
use Rattle.suit_cli.specs.declared.reply.Reply.{Reply}
use Rattle.suit_cli.specs.declared.reply.Outcome.TheVariants as outcomes
use Rattle.suit_cli.specs.Replies.{IsReply}
use Rattle.suit_cli.specs.Texts.{differs_line}
use Rattle.suit_cli.specs.Stages.{Stage, judging}
use Rattle.suit_cli.specs.Envelopes.{members_in}

-- the members that stand apart, as far as the envelope holds them
abbrev pub there_in : EnvelopeSays → Manifest → Stage Members
there_in said manifest = members_in said (only_there said manifest)

-- the envelope holds another text than the manifest states
abbrev pub TextDiffers : EnvelopeSays → TextMember → Type 0
TextDiffers said (texts.Apart stated) =
    (content : List ℕ) × (said.text ≡ Some content) × (string_like stated content ≢ stated)
TextDiffers said _ = ⊥

pub record IsOtherText (said : EnvelopeSays) (manifest : Manifest) (reply : Reply) : Type 0 where
  pub other : TextDiffers said manifest.text
  pub says : IsReply reply outcomes.Differs (differs_line names.Text)

abbrev pub text_in : EnvelopeSays → Manifest → Stage (Unit {0})
text_in said manifest =
    judging (λ _. TextDiffers said manifest.text → ⊥) (IsOtherText said manifest)

-- the description's compact text
abbrev pub IsDescription : List ℕ → EnvelopeSays → Manifest → Members → List ℕ → Type 0
IsDescription bytes said manifest members text =
    (payloads : List (List ℕ × List ℕ)) → HasPayloads bytes payloads
    → text ≡ compact_text (described_by said payloads manifest members)

-- the description and a line feed
pub record IsDescribed (bytes : List ℕ) (said : EnvelopeSays) (manifest : Manifest)
    (members : Members) (reply : Reply) : Type 0 where
  pub text : (payloads : List (List ℕ × List ℕ)) → HasPayloads bytes payloads
      → IsReply reply outcomes.Done
      (compact_text (described_by said payloads manifest members) ++ codes "\n")
