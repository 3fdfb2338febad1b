-- The lines that show an envelope under a key.
use Rattle.std.specs.Prelude.{◌≡◌, ◌≢◌, ℕ, ◌+◌, Bool, true, false, List, [], ◌∷◌, ◌++◌, Option, Some, None, codes, if◌then◌else◌}
use Rattle.hmac_mac0.specs.Mac0.{IsMac0}
use Rattle.hmac_mac0.specs.declared.mac_kind.MacKind.{MacKind}
use Rattle.suit_params.specs.declared.digest.Digest.{Digest}
use Rattle.suit_commands.specs.Tree.{SequenceTree}
use Rattle.suit_envelope.specs.Envelopes.{EnvelopeSays}
use Rattle.suit_envelope.specs.Macs.{IsOther}
use Rattle.suit_envelope.specs.Members.{string_like}
use Rattle.suit_envelope.specs.WrapperParts.{WrapperSays}
use Rattle.suit_envelope.specs.Authentic.{IsAuthentic, AnswersAuthentic}
use Rattle.suit_envelope.specs.declared.authenticity.Authenticity.{Authenticity}
use Rattle.suit_envelope.specs.declared.authenticity.Authenticity.TheVariants as authenticities
use Rattle.suit_manifest.specs.declared.manifest.Manifest.{Manifest}
use Rattle.suit_manifest.specs.declared.manifest.Member.{Member}
use Rattle.suit_manifest.specs.declared.manifest.Member.TheVariants as members
use Rattle.suit_manifest.specs.declared.manifest.TextMember.{TextMember}
use Rattle.suit_manifest.specs.declared.manifest.TextMember.TheVariants as texts
use Rattle.suit_cli.specs.declared.member_lines.MemberState.{MemberState}
use Rattle.suit_cli.specs.declared.member_lines.MemberState.TheVariants.{Here, Absent, Apart, Differs, Severed}
use Rattle.suit_cli.specs.declared.reply.Reply.{Reply}
use Rattle.suit_cli.specs.declared.reply.Outcome.{Outcome}
use Rattle.suit_cli.specs.declared.reply.Outcome.TheVariants as outcomes
use Rattle.suit_cli.specs.Texts.{tagged_line, block_line, member_line, authenticity_line}

-- ---- blocks

-- whether a block is a COSE_Mac0 block (RFC 9052, section 6.2)
abbrev pub HasKind : List ℕ → Bool → Type 0
HasKind block true =
    (kind : MacKind) × (protected : List ℕ) × (tag : List ℕ) × IsMac0 block kind protected tag
HasKind block false = IsOther block

abbrev pub kind_text : Bool → List ℕ
kind_text is_mac = if is_mac then codes "mac0" else codes "other"

-- a line for each block, from a number on
pub data BlockLines : ℕ → List (List ℕ) → List ℕ → Type 0 where
  NoLines : (number : ℕ) → BlockLines number [] []
  LineThen : (number : ℕ) (block : List ℕ) (blocks : List (List ℕ)) (is_mac : Bool) (lines : List ℕ)
      → HasKind block is_mac → BlockLines (number + 1) blocks lines
      → BlockLines number (block ∷ blocks) (block_line number (kind_text is_mac) ++ lines)

-- a text is continued by the lines of the wrapper's blocks
abbrev pub AddsBlocks : List ℕ → List ℕ → List ℕ → Type 0
AddsBlocks wrapper old new =
    (digest : Digest) (all : List (List ℕ)) → WrapperSays wrapper digest all
    → (lines : List ℕ) × BlockLines 0 all lines × (new ≡ old ++ lines)

-- ---- members

abbrev pub state_of : Option SequenceTree → MemberState
state_of None = Absent
state_of (Some s) = Here

-- of a member whose digest is stated, by what the envelope holds of it
abbrev pub StandsApart : Option (List ℕ) → Digest → MemberState → Type 0
StandsApart None stated Severed = Unit {0}
StandsApart (Some content) stated Apart = string_like stated content ≡ stated
StandsApart (Some content) stated Differs = string_like stated content ≢ stated
StandsApart _ stated _ = ⊥

abbrev pub HasState : Option (List ℕ) → Member → MemberState → Type 0
HasState held members.Empty state = state ≡ Absent
HasState held (members.Here s) state = state ≡ Here
HasState held (members.Apart stated) state = StandsApart held stated state

abbrev pub TextHasState : Option (List ℕ) → TextMember → MemberState → Type 0
TextHasState held texts.Empty state = state ≡ Absent
TextHasState held (texts.Here content) state = state ≡ Here
TextHasState held (texts.Apart stated) state = StandsApart held stated state

-- a line for each sequence of the manifest, and for the text
pub record MemberLines (said : EnvelopeSays) (manifest : Manifest) (lines : List ℕ) : Type 0 where
  pub payload_fetch : MemberState
  pub install : MemberState
  pub text : MemberState
  pub has_payload_fetch : HasState said.payload_fetch manifest.payload_fetch payload_fetch
  pub has_install : HasState said.install manifest.install install
  pub has_text : TextHasState said.text manifest.text text
  pub lines_are : lines ≡ member_line (codes "shared") (state_of manifest.shared)
      ++ member_line (codes "validate") (state_of manifest.validate)
      ++ member_line (codes "load") (state_of manifest.load)
      ++ member_line (codes "invoke") (state_of manifest.invoke)
      ++ member_line (codes "payload-fetch") payload_fetch
      ++ member_line (codes "install") install
      ++ member_line (codes "text") text

-- a text is continued by these lines
abbrev pub AddsMembers : EnvelopeSays → Manifest → List ℕ → List ℕ → Type 0
AddsMembers said manifest old new =
    (lines : List ℕ) × MemberLines said manifest lines × (new ≡ old ++ lines)

-- ---- all of it

abbrev pub authenticity_outcome : Authenticity → Outcome
authenticity_outcome authenticities.Yes = outcomes.Done
authenticity_outcome _ = outcomes.NotAuthentic

-- the answer is Yes exactly where the envelope is authentic, and otherwise it says why it is not
pub record TellsAuthenticity (said : EnvelopeSays) (key : List ℕ) (answer : Authenticity)
    : Type 0 where
  pub yes : answer ≡ authenticities.Yes → IsAuthentic said.wrapper said.manifest key
  pub every_yes : IsAuthentic said.wrapper said.manifest key → answer ≡ authenticities.Yes
  pub answers : (digest : Digest) (blocks : List (List ℕ)) → WrapperSays said.wrapper digest blocks
      → AnswersAuthentic digest blocks said.manifest key answer

-- whether there is a tag, then the blocks, the members, and last whether the envelope is authentic under the key
pub record IsShown (said : EnvelopeSays) (manifest : Manifest) (key : List ℕ) (reply : Reply)
    : Type 0 where
  pub digest : Digest
  pub blocks : List (List ℕ)
  pub says : WrapperSays said.wrapper digest blocks
  pub answer : Authenticity
  pub authenticity : TellsAuthenticity said key answer
  pub block_text : List ℕ
  pub block_lines : BlockLines 0 blocks block_text
  pub member_text : List ℕ
  pub member_lines : MemberLines said manifest member_text
  pub outcome_is : reply.outcome ≡ authenticity_outcome answer
  pub text_is :
      reply.text ≡ tagged_line said.tagged ++ block_text ++ member_text ++ authenticity_line answer
