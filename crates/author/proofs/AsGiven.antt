-- A made envelope holds what stands in the description's JSON value.
use Rattle.std.proofs.Common.{◌≡◌, ℕ, Bool, true, false, List, ◌∷◌, Option, Some, None, length, Result, Ok, Err, refl, sym, ap, subst, ◌∙◌}
use Rattle.std.specs.Prelude.{IfOk, IsTrue, map, codes}
use Rattle.det_cbor.specs.DataItem.{ByteString, spell}
use Rattle.serde_json.specs.Data.{Data, null, boolean, number, string, array, object}
use Rattle.serde_json.specs.Find.{get}
use Rattle.suit_params.specs.declared.digest_kind.DigestKind.{DigestKind}
use Rattle.suit_params.specs.DigestBytes.{digest_kind}
use Rattle.suit_params.specs.DigestLaws.{hash_kind}
use Rattle.suit_params.specs.Refusing.{SaysWhole}
use Rattle.suit_commands.specs.SequenceMaking.{code_of, sequence_item, step_items, argument_place, next_code, first_code, placed, placed_command}
use Rattle.suit_commands.specs.Sequences.{elements_place}
use Rattle.suit_commands.specs.Tree.{CommandTree, Test, Act, Index, Override, TryEach, RunSequence, SequenceTree, NoSteps, StepThen}
use Rattle.suit_envelope.specs.Envelopes.{EnvelopeSays}
use Rattle.suit_envelope.specs.Making.{SaysParts, SpellsParts}
use Rattle.suit_envelope.specs.Members.{string_digest}
use Rattle.suit_envelope.specs.Payloads.{HasPayloads}
use Rattle.suit_envelope.specs.Said.{EnvelopeOf}
use Rattle.suit_envelope.specs.declared.parts.EnvelopeParts.{EnvelopeParts}
use Rattle.suit_manifest.specs.declared.manifest.Manifest.{Manifest}
use Rattle.suit_manifest.specs.declared.manifest.Member.{Member}
use Rattle.suit_manifest.specs.declared.manifest.Member.TheVariants as members
use Rattle.suit_manifest.specs.declared.manifest.TextMember.{TextMember}
use Rattle.suit_manifest.specs.declared.manifest.TextMember.TheVariants as texts
use Rattle.suit_manifest.specs.ManifestMaking.{placed_severed, placed_manifest, value_place}
use Rattle.suit_manifest.specs.Manifests.{IsManifest}
use Rattle.suit_manifest.specs.MembersApart.{HasMember}
use Rattle.author.specs.declared.fields.Described.{Described}
use Rattle.author.specs.declared.make_fault.MakeFault.{MakeFault}
use Rattle.author.specs.declared.making.Parted.{Parted}
use Rattle.author.specs.GivenCommands.{codes_in}
use Rattle.author.specs.GivenEnvelopes.{HoldsMember, HoldsTextMember, HoldsAsGiven}
use Rattle.author.specs.GivenParts.{IsMemberOf, IsTextOf, IsSeveredOf, IsHere, IsTextHere, HasPartsOf}
use Rattle.author.specs.MadeEnvelopes.{HasBlockBy}
use Rattle.author.specs.MadeMembers.{HoldsSevered, HoldsText, HoldsSeveredOf}
use Rattle.author.specs.Making.{apart_member, apart_text, made_manifest}

-- ---- places change no command

code_placed : (place : ℕ) (c : CommandTree) → code_of (placed_command place c) ≡ code_of c
code_placed place (Test kind report) = refl
code_placed place (Act kind report) = refl
code_placed place (Index selection) = refl
code_placed place (Override list) = refl
code_placed place (TryEach tries) = refl
code_placed place (RunSequence inner) = refl

codes_placed : (place : ℕ) (s : SequenceTree) → codes_in (placed place s) ≡ codes_in s
codes_placed place NoSteps = refl
codes_placed place (StepThen was command rest) =
    ap (λ (n : ℕ). n ∷ codes_in (placed (next_code place command) rest)) (code_placed (argument_place place command) command) ∙ ap (λ (ns : List ℕ). code_of command ∷ ns) (codes_placed (next_code place command) rest)

here_placed : (o : Option Data) (place : ℕ) (s : SequenceTree) → IsMemberOf o (members.Here s) → IsMemberOf o (members.Here (placed place s))
here_placed None place s h = h
here_placed (Some null) place s h = h
here_placed (Some (boolean b)) place s h = h
here_placed (Some (number n)) place s h = h
here_placed (Some (string t)) place s h = h
here_placed (Some (array ds)) place s h = h ∙ ap (map Some) (sym (codes_placed place s))
here_placed (Some (object ms)) place s h = h

member_placed : (o : Option Data) (place : ℕ) (m : Member) → IsMemberOf o m → IsMemberOf o (placed_severed place m)
member_placed o place members.Empty h = h
member_placed o place (members.Here s) h = here_placed o (first_code place s) s h
member_placed o place (members.Apart digest) h = h

-- a member that is taken is stated by its digest
stated_placed : (count : ℕ) (held : Option (List ℕ)) (place at : ℕ) (m : Member) (s : SequenceTree) → HasMember count held place m (Some s) → HasMember count held place (placed_severed at m) (Some s)
stated_placed count held place at members.Empty s h = h
stated_placed count held place at (members.Here own) s h = h
stated_placed count held place at (members.Apart digest) s h = h

-- ---- members

not_named : {A : Type 0} → false ≡ true → A
not_named e = absurd cc

module _ (d : Data) (name : List ℕ) (count : ℕ) (held : Option (List ℕ)) (place at : ℕ) where
  holds_member : (b : Bool) (kind : DigestKind) (m : Member) → IsSeveredOf d name b kind → (IsTrue b → IsHere m) → IsMemberOf (get name d) m → HoldsSevered count held place b m (apart_member b kind m)
      → HoldsMember d name count held place (placed_severed at (apart_member b kind m))
  holds_member true kind members.Empty named here is h = absurd (here refl)
  holds_member true kind (members.Here s) named here is h = record {
    severed = λ other there.
        let p : ℕ = elements_place place (step_items s) in
        let content : List ℕ = spell (sequence_item s) in
        let by : digest_kind (string_digest kind content) ≡ other = hash_kind kind (spell (ByteString content)) ∙ sym (named.severs other there).1 in
        (placed p s, stated_placed count held place at (apart_member true kind (members.Here s)) (placed p s) h, here_placed (get name d) p s is, by);
    own = λ no. absurd (no (kind, named.named refl));
  }
  holds_member true kind (members.Apart digest) named here is h = absurd (here refl)
  holds_member false kind m named here is h = record {
    severed = λ other there. not_named (named.severs other there).0;
    own = λ no. (h, member_placed (get name d) at m is);
  }

module _ (d : Data) (held : Option (List ℕ)) where
  holds_text : (b : Bool) (kind : DigestKind) (t : TextMember) → IsSeveredOf d (codes "text") b kind → (IsTrue b → IsTextHere t) → IsTextOf (get (codes "text") d) t → HoldsText held b kind t (apart_text b kind t)
      → HoldsTextMember d held (apart_text b kind t)
  holds_text true kind texts.Empty named here is h = absurd (here refl)
  holds_text true kind (texts.Here content) named here is h = record {
    severed = λ other there. (content, h.0, ap (λ (k : DigestKind). texts.Apart (string_digest k content)) (sym (named.severs other there).1), is);
    own = λ no. absurd (no (kind, named.named refl));
  }
  holds_text true kind (texts.Apart digest) named here is h = absurd (here refl)
  holds_text false kind t named here is h = record { severed = λ other there. not_named (named.severs other there).0; own = λ no. (h, is) }

-- ---- together

module _ (d : Data) (files : List (List ℕ × List ℕ)) (p : Described) (parts : HasPartsOf d files p) where
  given : (bytes : List ℕ) (said : EnvelopeSays) → EnvelopeOf bytes said → SaysWhole IsManifest said.manifest_place said.manifest (placed_manifest said.manifest_place (made_manifest p)) → HoldsSeveredOf p said
      → HasPayloads bytes p.payloads → HasBlockBy p.mac p.algorithm said.wrapper said.manifest → HoldsAsGiven d files bytes
  given bytes said envelope says_so held payloads block =
      let m : Manifest = made_manifest p in
      let n : ℕ = length p.manifest.components in
      let fetch_place : ℕ = value_place 16 said.manifest_place m in
      let install_place : ℕ = value_place 20 said.manifest_place m in
      record {
        said = said;
        envelope = envelope;
        block = record { mac = p.mac; named = parts.mac; algorithm = p.algorithm; states = parts.algorithm; block = block };
        manifest = placed_manifest said.manifest_place m;
        says_so = says_so;
        payload_fetch = holds_member d (codes "payload-fetch") n said.payload_fetch said.payload_fetch_place fetch_place p.severed.payload_fetch p.severed.kinds.payload_fetch p.manifest.payload_fetch parts.severed.payload_fetch parts.severed.payload_fetch_here
            parts.payload_fetch held.payload_fetch;
        install = holds_member d (codes "install") n said.install said.install_place install_place p.severed.install p.severed.kinds.install p.manifest.install parts.severed.install parts.severed.install_here parts.install held.install;
        text = holds_text d said.text p.severed.text p.severed.kinds.text p.manifest.text parts.severed.text parts.severed.text_here parts.text held.text;
        list = p.payloads;
        payloads = payloads;
        given = parts.payloads;
      }

  -- where these parts were made
  module _ (made : EnvelopeParts) (q : Parted) (is : q.manifest ≡ made_manifest p) (same : made.payloads ≡ p.payloads) (held : (said : EnvelopeSays) → SaysParts made said → HoldsSeveredOf p said)
      (manifest : (said : EnvelopeSays) → SaysParts made said → SaysWhole IsManifest said.manifest_place said.manifest (placed_manifest said.manifest_place q.manifest)) (block : HasBlockBy p.mac p.algorithm made.wrapper made.manifest) where
    block_said : (said : EnvelopeSays) → SaysParts made said → HasBlockBy p.mac p.algorithm said.wrapper said.manifest
    block_said said says = rw (says.wrapper, says.manifest) block

    pub given_ok : (result : Result (List ℕ) MakeFault) → IfOk result (SpellsParts made) → IfOk result (λ bytes. HasPayloads bytes made.payloads) → IfOk result (HoldsAsGiven d files)
    given_ok (Ok bytes) e h =
        given bytes e.0 e.1.0 (subst (λ (m : Manifest). SaysWhole IsManifest e.0.manifest_place e.0.manifest (placed_manifest e.0.manifest_place m)) is (manifest e.0 e.1.1)) (held e.0 e.1.1) (subst (HasPayloads bytes) same h) (block_said e.0 e.1.1)
    given_ok (Err fault) e h = tt
