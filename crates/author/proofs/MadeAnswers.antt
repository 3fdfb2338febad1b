-- The answer to a description that is made into an envelope.
use Rattle.std.proofs.Common.{◌≡◌, ℕ, Bool, true, false, Option, length, List, [], ◌∷◌, Some, None, Result, Ok, Err, refl, sym, ap, subst, ◌∙◌, arith, inl, inr}
use Rattle.std.specs.Prelude.{IfOk, IfErr}
use Rattle.serde_json.specs.Data.{Data}
use Rattle.json_fields.specs.declared.flaw.Flaw.{Flaw}
use Rattle.suit_params.specs.declared.digest_kind.DigestKind.{DigestKind}
use Rattle.suit_params.specs.DigestLaws.{hash_again}
use Rattle.suit_envelope.specs.Authentic.{IsAuthentic}
use Rattle.suit_envelope.specs.Envelopes.{EnvelopeSays}
use Rattle.suit_envelope.specs.Macs.{ThisVerifies}
use Rattle.suit_envelope.specs.Making.{SaysParts}
use Rattle.suit_envelope.specs.Members.{string_digest}
use Rattle.suit_envelope.specs.Payloads.{HasPayloads}
use Rattle.suit_envelope.specs.Said.{EnvelopeOf}
use Rattle.suit_params.specs.Refusing.{SaysWhole}
use Rattle.suit_params.specs.declared.digest.Digest.{Digest}
use Rattle.suit_manifest.specs.ManifestMaking.{placed_manifest}
use Rattle.suit_manifest.specs.MembersApart.{HasMember}
use Rattle.suit_manifest.specs.ManifestWriting.{ManifestFits, IsWrittenManifest, IsGrammatical}
use Rattle.suit_manifest.specs.Manifests.{IsManifest}
use Rattle.suit_manifest.specs.declared.manifest.Member.{Member}
use Rattle.suit_manifest.specs.declared.manifest.Member.TheVariants as members
use Rattle.suit_manifest.specs.declared.manifest.TextMember.{TextMember}
use Rattle.suit_manifest.specs.declared.manifest.TextMember.TheVariants as texts
use Rattle.suit_commands.specs.SequenceMaking.{sequence_item, step_items, placed}
use Rattle.suit_commands.specs.Sequences.{elements_place}
use Rattle.suit_commands.specs.Tree.{SequenceTree}
use Rattle.det_cbor.specs.DataItem.{ByteString, spell}
use Rattle.suit_envelope.specs.declared.parts.EnvelopeParts.{EnvelopeParts}
use Rattle.author.specs.declared.fields.Described.{Described}
use Rattle.author.specs.declared.making.Parted.{Parted}
use Rattle.author.specs.declared.make_fault.MakeFault.{MakeFault}
use Rattle.author.specs.declared.make_fault.MakeFault.TheVariants.{TooLong, NoMemory}
use Rattle.author.specs.Descriptions.{described}
use Rattle.author.specs.DescriptionLaws.{DescriptionLaws}
use Rattle.author.specs.Faults.{IsDescription}
use Rattle.author.specs.Making.{apart_member, apart_text, made_manifest}
use Rattle.author.specs.Severances.{parted, severed_content, severed_text}
use Rattle.author.specs.MadeEnvelopes.{made_parts, made_bytes, IsShort, ExceedsLimit, Trimmed, Whole, AnswersShort, IsMadeOf, IsTooLong, IsMakeFaultOf, IsMadeAs, IsTooLongBy, HasOneBlock, IsAuthenticUnder, HoldsPartsOf, HoldsManifestOf}
use Rattle.author.specs.MadePayloads.{HoldsPayloadsOf}
use Rattle.author.specs.MadeMembers.{HoldsSevered, HoldsText, HoldsSeveredOf, HoldsMembersOf, IsAllowedMember, IsWrittenApart, AreWrittenApart}
use Rattle.author.proofs.DescriptionLawProofs.{is_description}

-- ---- lengths

not_passed : (parts : EnvelopeParts) (limit : ℕ) → IsShort parts → ExceedsLimit parts limit → ⊥
not_passed parts _ short (Trimmed long) = absurd (omega (short.0, arith))
not_passed parts _ short (Whole trimmed long) = absurd (omega (short.1, arith))

one_limit : (parts : EnvelopeParts) (m n : ℕ) → ExceedsLimit parts m → ExceedsLimit parts n → m ≡ n
one_limit parts _ _ (Trimmed a) (Trimmed b) = refl
one_limit parts _ _ (Trimmed a) (Whole b c) = absurd (omega arith)
one_limit parts _ _ (Whole a b) (Trimmed c) = absurd (omega arith)
one_limit parts _ _ (Whole a b) (Whole c d) = refl

-- ---- answers

abbrev said_or : Described → Result Described Flaw → Described
said_or p (Ok q) = q
said_or p (Err f) = p

module _ (d : Data) (files : List (List ℕ × List ℕ)) (key : List ℕ) (said : Described) (reads : described files d ≡ Ok said) where
  abbrev parts : EnvelopeParts
  parts = made_parts key (parted said)

  same_parts : (other : Described) → described files d ≡ Ok other → made_parts key (parted other) ≡ parts
  same_parts other e = ap (λ r. made_parts key (parted (said_or said r))) (sym e ∙ reads)

  -- the parts that were made are those
  pub of_parts : (p : EnvelopeParts) (q : Parted) (result : Result (List ℕ) MakeFault) → q ≡ parted said → p ≡ made_parts key q → AnswersShort p result → AnswersShort parts result
  of_parts p q result e k h = subst (λ (x : EnvelopeParts). AnswersShort x result) (k ∙ ap (made_parts key) e) h

  answers_ok : (result : Result (List ℕ) MakeFault) → AnswersShort parts result → IfOk result (IsMadeOf d files key)
  answers_ok (Ok bytes) h = record { said = said; reads = reads; short = h.1; is = h.0 }
  answers_ok (Err fault) h = tt

  answers_err : (result : Result (List ℕ) MakeFault) → AnswersShort parts result → IfErr result (IsMakeFaultOf d files key)
  answers_err (Ok bytes) h = tt
  answers_err (Err (TooLong limit)) h = record { said = said; reads = reads; passes = h }
  answers_err (Err NoMemory) h = tt

  answers_envelope : (result : Result (List ℕ) MakeFault) → AnswersShort parts result → (bytes : List ℕ) → IsMadeOf d files key bytes → IsMadeAs bytes result
  answers_envelope (Ok made) h bytes m = h.0 ∙ sym (m.is ∙ ap made_bytes (same_parts m.said m.reads))
  answers_envelope (Err (TooLong limit)) h bytes m = absurd (not_passed parts limit (subst IsShort (same_parts m.said m.reads) m.short) h)
  answers_envelope (Err NoMemory) h bytes m = refl

  answers_limit : (result : Result (List ℕ) MakeFault) → AnswersShort parts result → (limit : ℕ) → IsTooLong d files key limit → IsTooLongBy limit result
  answers_limit (Ok made) h limit m = not_passed parts limit h.1 (subst (λ (p : EnvelopeParts). ExceedsLimit p limit) (same_parts m.said m.reads) m.passes)
  answers_limit (Err (TooLong other)) h limit m = inl (ap TooLong (one_limit parts other limit h (subst (λ (p : EnvelopeParts). ExceedsLimit p limit) (same_parts m.said m.reads) m.passes)))
  answers_limit (Err NoMemory) h limit m = inr refl

-- where these parts were made
module _ (d : Data) (files : List (List ℕ × List ℕ)) (key : List ℕ) (said : Described) (reads : described files d ≡ Ok said) (p : EnvelopeParts) (q : Parted) (result : Result (List ℕ) MakeFault) (e : q ≡ parted said) (k : p ≡ made_parts key q) (h : AnswersShort p result) where
  pub made_ok : IfOk result (IsMadeOf d files key)
  made_ok = answers_ok d files key said reads result (of_parts d files key said reads p q result e k h)

  pub made_refused : IfErr result (IsMakeFaultOf d files key)
  made_refused = answers_err d files key said reads result (of_parts d files key said reads p q result e k h)

  pub made_envelope : (bytes : List ℕ) → IsMadeOf d files key bytes → IsMadeAs bytes result
  made_envelope = answers_envelope d files key said reads result (of_parts d files key said reads p q result e k h)

  pub made_limit : (limit : ℕ) → IsTooLong d files key limit → IsTooLongBy limit result
  made_limit = answers_limit d files key said reads result (of_parts d files key said reads p q result e k h)

-- ---- the envelope is authentic

block_of : (key wrapper manifest : List ℕ) → HasOneBlock key wrapper manifest → IsAuthentic wrapper manifest key
block_of key wrapper manifest h = record {
  digest = string_digest h.algorithm manifest;
  blocks = h.block ∷ [];
  says = h.says;
  stated = sym (hash_again h.algorithm (spell (ByteString manifest)));
  verifies = ThisVerifies h.block [] h.verifies;
}

pub authentic_made : (key bytes : List ℕ) (parts : EnvelopeParts) (said : EnvelopeSays) → EnvelopeOf bytes said → SaysParts parts said → HasOneBlock key parts.wrapper parts.manifest → IsAuthenticUnder key bytes
authentic_made key bytes parts said envelope says h =
    let block : HasOneBlock key said.wrapper said.manifest = rw (says.wrapper, says.manifest) h in
    record { said = said; envelope = envelope; tagged = says.tagged; one_block = block; authentic = block_of key said.wrapper said.manifest block }

-- ---- the parts and the manifest are those of the description

pub holds_parts : (d : Data) (files : List (List ℕ × List ℕ)) (key bytes : List ℕ) (described_as : Described) (p : EnvelopeParts) (q : Parted) (said : EnvelopeSays) → described files d ≡ Ok described_as
    → q ≡ parted described_as → p ≡ made_parts key q → EnvelopeOf bytes said → SaysParts p said → HoldsPartsOf d files key bytes
holds_parts d files key bytes described_as p q said reads e k envelope says = record {
  described_as = described_as;
  reads = reads;
  said = said;
  envelope = envelope;
  parts = subst (λ (x : EnvelopeParts). SaysParts x said) (k ∙ ap (made_parts key) e) says;
}

grammatical : DescriptionLaws → (d : Data) (files : List (List ℕ × List ℕ)) (said : Described) (q : Parted) → ∥ IsDescription d ∥₁ → described files d ≡ Ok said → q ≡ parted said → ManifestFits q.manifest
    → IsGrammatical q.manifest
grammatical law d files said q accepted reads e fits =
    let same : q.manifest ≡ made_manifest said = ap (λ (x : Parted). x.manifest) e in
    subst IsGrammatical (sym same) (law.grammatical d files said (is_description d accepted) reads (subst ManifestFits same fits))

-- the manifest of these parts, with its places
pub manifest_said : DescriptionLaws → (d : Data) (files : List (List ℕ × List ℕ)) (described_as : Described) (p : EnvelopeParts) (q : Parted) (said : EnvelopeSays)
    → ∥ IsDescription d ∥₁ → described files d ≡ Ok described_as → q ≡ parted described_as → ManifestFits q.manifest → IsWrittenManifest q.manifest p.manifest → SaysParts p said
    → SaysWhole IsManifest said.manifest_place said.manifest (placed_manifest said.manifest_place q.manifest)
manifest_said law d files described_as p q said accepted reads e fits written says =
    let place : ℕ = said.manifest_place in
    let held : SaysWhole IsManifest place p.manifest (placed_manifest place q.manifest) = written.says place (grammatical law d files described_as q accepted reads e fits) in
    subst (λ (b : List ℕ). SaysWhole IsManifest place b (placed_manifest place q.manifest)) (sym says.manifest) held

pub holds_manifest : (d : Data) (files : List (List ℕ × List ℕ)) (bytes : List ℕ) (described_as : Described) (q : Parted) (said : EnvelopeSays) → described files d ≡ Ok described_as → q ≡ parted described_as
    → EnvelopeOf bytes said → SaysWhole IsManifest said.manifest_place said.manifest (placed_manifest said.manifest_place q.manifest) → HoldsManifestOf d files bytes
holds_manifest d files bytes described_as q said reads e envelope says_so = record {
  said = said;
  envelope = envelope;
  manifest = q.manifest;
  is = record { said = described_as; reads = reads; is = ap (λ (x : Parted). x.manifest) e };
  says_so = says_so;
}

-- ---- the severed members are those of the description

-- A severed member that is given with its content stands in the envelope, and its digest in the manifest. Nothing else
-- stands there.
pub record StandBeside : Type 0 where
  pub here :
      (kind : DigestKind) (s : SequenceTree) → (severed_content true (members.Here s) ≡ Some (spell (sequence_item s))) × (apart_member true kind (members.Here s) ≡ members.Apart (string_digest kind (spell (sequence_item s))))
  pub empty : severed_content true members.Empty ≡ None
  pub digest : (digest : Digest) → severed_content true (members.Apart digest) ≡ None
  pub own : (m : Member) → severed_content false m ≡ None
  pub text : (kind : DigestKind) (content : List ℕ) → (severed_text true (texts.Here content) ≡ Some content) × (apart_text true kind (texts.Here content) ≡ texts.Apart (string_digest kind content))
  pub no_text : severed_text true texts.Empty ≡ None
  pub text_digest : (digest : Digest) → severed_text true (texts.Apart digest) ≡ None
  pub own_text : (t : TextMember) → severed_text false t ≡ None

module _ (beside : StandBeside) where
  holds_severed : (count : ℕ) (held : Option (List ℕ)) (place : ℕ) (b : Bool) (kind : DigestKind) (m : Member) → IsAllowedMember count m → IsWrittenApart b m → held ≡ severed_content b m
      → HoldsSevered count held place b m (apart_member b kind m)
  holds_severed count held place true kind members.Empty allowed written is = is ∙ beside.empty
  holds_severed count held place true kind (members.Here s) allowed written is =
      subst (λ (x : Member). HasMember count held place x (Some (placed (elements_place place (step_items s)) s))) (sym (beside.here kind s).1)
      (record {
        content = spell (sequence_item s);
        there = is ∙ (beside.here kind s).0;
        matches = hash_again kind (spell (ByteString (spell (sequence_item s))));
        says_so = written.0.says false count place (allowed written.1);
      })
  holds_severed count held place true kind (members.Apart digest) allowed written is = is ∙ beside.digest digest
  holds_severed count held place false kind m allowed written is = is ∙ beside.own m

  holds_text : (held : Option (List ℕ)) (b : Bool) (kind : DigestKind) (t : TextMember) → held ≡ severed_text b t → HoldsText held b kind t (apart_text b kind t)
  holds_text held true kind texts.Empty is = is ∙ beside.no_text
  holds_text held true kind (texts.Here content) is = (is ∙ (beside.text kind content).0, (beside.text kind content).1)
  holds_text held true kind (texts.Apart digest) is = is ∙ beside.text_digest digest
  holds_text held false kind t is = is ∙ beside.own_text t

  -- the members of these parts
  pub severed_held : DescriptionLaws → (d : Data) (files : List (List ℕ × List ℕ)) (key : List ℕ) (described_as : Described) (p : EnvelopeParts) (q : Parted) (said : EnvelopeSays)
      → ∥ IsDescription d ∥₁ → described files d ≡ Ok described_as → q ≡ parted described_as → p ≡ made_parts key q → AreWrittenApart described_as → SaysParts p said → HoldsSeveredOf described_as said
  severed_held law d files key described_as p q said accepted reads e k written says =
      let same : p ≡ made_parts key (parted described_as) = k ∙ ap (made_parts key) e in
      let allowed = law.members d files described_as (is_description d accepted) reads in
      let n : ℕ = length described_as.manifest.components in
      record {
        payload_fetch = holds_severed n said.payload_fetch said.payload_fetch_place described_as.severed.payload_fetch described_as.severed.kinds.payload_fetch described_as.manifest.payload_fetch allowed.0 written.0
            (says.payload_fetch ∙ ap (λ (x : EnvelopeParts). x.payload_fetch) same);
        install = holds_severed n said.install said.install_place described_as.severed.install described_as.severed.kinds.install described_as.manifest.install allowed.1 written.1
            (says.install ∙ ap (λ (x : EnvelopeParts). x.install) same);
        text = holds_text said.text described_as.severed.text described_as.severed.kinds.text described_as.manifest.text (says.text ∙ ap (λ (x : EnvelopeParts). x.text) same);
      }

pub holds_members : (d : Data) (files : List (List ℕ × List ℕ)) (bytes : List ℕ) (described_as : Described) (said : EnvelopeSays) → described files d ≡ Ok described_as → EnvelopeOf bytes said → HoldsSeveredOf described_as said
    → HoldsMembersOf d files bytes
holds_members d files bytes described_as said reads envelope members = record { described_as = described_as; reads = reads; said = said; envelope = envelope; members = members }

-- ---- the payloads are those of the description

pub holds_payloads : (d : Data) (files : List (List ℕ × List ℕ)) (bytes : List ℕ) (described_as : Described) (list : List (List ℕ × List ℕ)) → described files d ≡ Ok described_as → list ≡ described_as.payloads
    → HasPayloads bytes list → HoldsPayloadsOf d files bytes
holds_payloads d files bytes described_as list reads same has = record { described_as = described_as; reads = reads; payloads = subst (HasPayloads bytes) same has }
