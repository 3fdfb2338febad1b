-- A described manifest is made again.
use Rattle.std.proofs.Common.{◌≡◌, ℕ, Bool, true, false, ◌&&◌, cond, List, [], Option, Some, None, Result, Ok, unwrap_or, refl, sym, ap, ◌∙◌}
use Rattle.std.specs.Prelude.{is_some, IfSome}
use Rattle.std.specs.Result.{result_ok}
use Rattle.std.specs.List.{AllByRecursion}
use Rattle.det_cbor.specs.DataItem.{ByteString, IsByte, IsString, spell}
use Rattle.suit_commands.specs.Allowed.{levels_allowed}
use Rattle.suit_commands.specs.SequenceLaws.{SequenceLaws}
use Rattle.suit_commands.specs.SequenceMaking.{sequence_item, unplaced, unplaced_command, unplaced_branches}
use Rattle.suit_commands.specs.Tree.{CommandTree, Test, Act, Index, Override, TryEach, RunSequence, SequenceTree, NoSteps, StepThen, BranchesTree, NoBranches, BranchThen, NullThen}
use Rattle.suit_envelope.specs.EnvelopeLaws.{EnvelopeLaws}
use Rattle.suit_envelope.specs.Envelopes.{EnvelopeSays}
use Rattle.suit_envelope.specs.Members.{string_like}
use Rattle.suit_manifest.specs.declared.manifest.Manifest.{Manifest}
use Rattle.suit_manifest.specs.declared.manifest.Member.{Member}
use Rattle.suit_manifest.specs.declared.manifest.Member.TheVariants as members
use Rattle.suit_manifest.specs.declared.manifest.Members.{Members as ApartMembers}
use Rattle.suit_manifest.specs.declared.manifest.TextMember.{TextMember}
use Rattle.suit_manifest.specs.declared.manifest.TextMember.TheVariants as texts
use Rattle.suit_manifest.specs.ManifestLaws.{ManifestLaws}
use Rattle.suit_manifest.specs.ManifestMaking.{unplaced_held, unplaced_severed, unplaced_manifest}
use Rattle.suit_manifest.specs.ManifestWriting.{IsGrammatical, IsSevered}
use Rattle.suit_manifest.specs.Manifests.{count_said}
use Rattle.suit_manifest.specs.MembersApart.{HasMember, HasMembers}
use Rattle.suit_params.specs.declared.digest.Digest.{Digest}
use Rattle.suit_params.specs.DigestBytes.{IsDigestBytes}
use Rattle.suit_params.specs.DigestLaws.{has_decides}
use Rattle.suit_params.specs.Hashes.{has_digest}
use Rattle.json_fields.specs.declared.flaw.Flaw.{Flaw}
use Rattle.author.specs.Making.{apart_member, apart_text as made_text, made_manifest}
use Rattle.author.specs.Members.{is_one_item}
use Rattle.describe.specs.Again.{IsThere, AreThere, MadeAgain}
use Rattle.describe.specs.MemberData.{is_severed, member_kind, apart_text, text_kind}
use Rattle.describe.specs.Describing.{text_there}
use Rattle.describe.proofs.DescriptionReads.{AreReadable, made, reads}
use Rattle.describe.proofs.FieldsTaken.{read_member, MemberReads, read_text, TextReads}
use Rattle.describe.proofs.ManifestFacts.{Splits, sequence_fits, components_fit, IsStated, stated, IsText, text_fits}
use Rattle.describe.proofs.PayloadFacts.{payloads_fit}

-- ---- places left out twice are left out

mutual
  sequence_twice : (s : SequenceTree) → unplaced (unplaced s) ≡ unplaced s
  sequence_twice NoSteps = refl
  sequence_twice (StepThen place command rest) = rw (command_twice command, sequence_twice rest) refl

  command_twice : (c : CommandTree) → unplaced_command (unplaced_command c) ≡ unplaced_command c
  command_twice (Test kind report) = refl
  command_twice (Act kind report) = refl
  command_twice (Index selection) = refl
  command_twice (Override list) = refl
  command_twice (TryEach tries) = ap TryEach (branches_twice tries)
  command_twice (RunSequence inner) = ap RunSequence (sequence_twice inner)

  branches_twice : (bs : BranchesTree) → unplaced_branches (unplaced_branches bs) ≡ unplaced_branches bs
  branches_twice NoBranches = refl
  branches_twice (BranchThen inner rest) = rw (sequence_twice inner, branches_twice rest) refl
  branches_twice (NullThen rest) = ap NullThen (branches_twice rest)

held_twice : (s : Option SequenceTree) → unplaced_held (unplaced_held s) ≡ unplaced_held s
held_twice None = refl
held_twice (Some s) = ap (λ t. Some t) (sequence_twice s)

severed_twice : (x : Member) → unplaced_severed (unplaced_severed x) ≡ unplaced_severed x
severed_twice members.Empty = refl
severed_twice (members.Here s) = ap members.Here (sequence_twice s)
severed_twice (members.Apart digest) = refl

manifest_twice : (m : Manifest) → unplaced_manifest (unplaced_manifest m) ≡ unplaced_manifest m
manifest_twice m =
    rw (held_twice m.shared, held_twice m.validate, held_twice m.load, held_twice m.invoke, severed_twice m.payload_fetch, severed_twice m.install) refl

-- ---- members

module _ (laws : SequenceLaws) (count : ℕ) (held : Option (List ℕ)) (place : ℕ) where
  member_again : (x : Member) (apart : Option SequenceTree) → IsThere count held place x apart → apart_member (is_severed x apart) (member_kind x apart) (read_member x apart) ≡ unplaced_severed x
  member_again members.Empty apart there = refl
  member_again (members.Here s) apart there = refl
  member_again (members.Apart digest) None there = refl
  member_again (members.Apart digest) (Some s) there =
      let content : there.content ≡ spell (sequence_item s) = laws.again false count levels_allowed place there.content s there.says_so in
      let item : sequence_item (unplaced s) ≡ sequence_item s = laws.one_item (unplaced s) s (sequence_twice s) in
      let same : string_like digest (spell (sequence_item (unplaced s))) ≡ digest = ap (λ x. string_like digest (spell x)) item ∙ ap (string_like digest) (sym content) ∙ there.matches in
      ap members.Apart same

  member_reads : (x : Member) (apart : Option SequenceTree) → IsThere count held place x apart → IsSevered count x → IsStated x → MemberReads count x apart
  member_reads members.Empty apart there allowed is = tt
  member_reads (members.Here s) apart there allowed is = allowed
  member_reads (members.Apart digest) None there allowed is = is
  member_reads (members.Apart digest) (Some s) there allowed is =
      laws.allowed false count levels_allowed place there.says_so.item s there.says_so.spells.valid there.says_so.says_so

-- ---- members that were taken are there

is_there : (count : ℕ) (held : Option (List ℕ)) (place : ℕ) (x : Member) (apart : Option SequenceTree) → HasMember count held place x apart → IsThere count held place x apart
is_there count held place members.Empty apart h = tt
is_there count held place (members.Here s) apart h = tt
is_there count held place (members.Apart digest) None h = tt
is_there count held place (members.Apart digest) (Some s) h = h

pub are_there : (said : EnvelopeSays) (m : Manifest) (apart : ApartMembers) → HasMembers said m apart → AreThere said m apart
are_there said m apart h = record {
  payload_fetch = is_there (count_said m) said.payload_fetch said.payload_fetch_place m.payload_fetch apart.payload_fetch h.payload_fetch;
  install = is_there (count_said m) said.install said.install_place m.install apart.install h.install;
}

-- ---- the text

abbrev TextAgain : TextMember → Option (List ℕ) → Type 0
TextAgain x apart = (made_text (is_some apart) (text_kind x apart) (read_text x apart) ≡ x) × TextReads x apart

both_true : (a b : Bool) → (a && b) ≡ true → (a ≡ true) × (b ≡ true)
both_true true true h = (refl, refl)
both_true true false h = absurd cc
both_true false b h = absurd cc

abbrev HoldsBytes : Option (List ℕ) → Type 0
HoldsBytes held = IfSome held (λ content. AllByRecursion IsByte content)

text_by : (digest : Digest) (content : List ℕ) (t : Bool) → AllByRecursion IsByte content → IsDigestBytes digest
    → has_digest digest (spell (ByteString content)) && is_one_item content ≡ t → TextAgain (texts.Apart digest) (cond t (Some content) None)
text_by digest content true bytes is e =
    let both = both_true (has_digest digest (spell (ByteString content))) (is_one_item content) e in
    (ap texts.Apart ((has_decides digest (spell (ByteString content))).0 both.0), (bytes, both.1))
text_by digest content false bytes is e = (refl, is)

text_again : (x : TextMember) (held : Option (List ℕ)) → HoldsBytes held → IsText x → TextAgain x (apart_text x held)
text_again texts.Empty held bytes is = (refl, tt)
text_again (texts.Here content) held bytes is = (refl, is)
text_again (texts.Apart digest) None bytes is = (refl, is)
text_again (texts.Apart digest) (Some content) bytes is = text_by digest content (has_digest digest (spell (ByteString content)) && is_one_item content) bytes is refl

string_bytes_of : (held : Option (List ℕ)) → IfSome held IsString → HoldsBytes held
string_bytes_of None h = tt
string_bytes_of (Some content) h = h.1

-- ---- the law

one_value : {D : Type 0} (r : Result D Flaw) (a b : D) → r ≡ Ok a → r ≡ Ok b → a ≡ b
one_value r a b first second = ap (λ x. unwrap_or (result_ok x) a) (sym first ∙ second)

abbrev with_members : Manifest → Member → Member → TextMember → Manifest
with_members m payload_fetch install text = record (unplaced_manifest m) { payload_fetch = payload_fetch; install = install; text = text }

module _ (splits : Splits) (envelopes : EnvelopeLaws) (sequences : SequenceLaws) (manifests : ManifestLaws) where
  pub made_again : MadeAgain
  made_again bytes said payloads files place m apart envelope has manifest there =
      let x = manifest.item in
      let valid = manifest.spells.valid in
      let is = manifest.says_so in
      let allowed : IsGrammatical m = manifests.grammatical place x m is in
      let text = text_again m.text said.text (string_bytes_of said.text (envelopes.strings bytes said envelope).text) (text_fits splits place x is.map.pairs m.text valid is.map.is is.text) in
      let fetch_stated = stated 16 (count_said m) place place x is.map.pairs m.payload_fetch valid is.map.is is.payload_fetch in
      let install_stated = stated 20 (count_said m) place place x is.map.pairs m.install valid is.map.is is.install in
      let readable : AreReadable said payloads m apart = record {
        sequence = sequence_fits place x m valid is;
        some = allowed.some;
        few = allowed.few;
        components = components_fit place x m valid is;
        shared = allowed.shared;
        validate = allowed.validate;
        load = allowed.load;
        invoke = allowed.invoke;
        payload_fetch = member_reads sequences (count_said m) said.payload_fetch said.payload_fetch_place m.payload_fetch apart.payload_fetch there.payload_fetch allowed.payload_fetch fetch_stated;
        install = member_reads sequences (count_said m) said.install said.install_place m.install apart.install there.install allowed.install install_stated;
        text = text.1;
        payloads_hold = payloads_fit bytes payloads has;
      } in
      let read = reads said payloads m apart readable files in
      let fetch = member_again sequences (count_said m) said.payload_fetch said.payload_fetch_place m.payload_fetch apart.payload_fetch there.payload_fetch in
      let install = member_again sequences (count_said m) said.install said.install_place m.install apart.install there.install in
      let made_install = apart_member (is_severed m.install apart.install) (member_kind m.install apart.install) (read_member m.install apart.install) in
      let made_content = made_text (is_some (text_there said m)) (text_kind m.text (text_there said m)) (read_text m.text (text_there said m)) in
      let same : made_manifest (made said payloads m apart readable files read.0) ≡ unplaced_manifest m =
      ap (λ (x : Member). with_members m x made_install made_content) fetch ∙ ap (λ (x : Member). with_members m (unplaced_severed m.payload_fetch) x made_content) install
      ∙ ap (λ (x : TextMember). with_members m (unplaced_severed m.payload_fetch) (unplaced_severed m.install) x) text.0 in
      let accepted = reads said payloads m apart readable [] in
      record {
        accepted = record { said = made said payloads m apart readable [] accepted.0; reads = accepted.1; components = record { few = allowed.few; apart = allowed.apart } };
        manifest = record { said = made said payloads m apart readable files read.0; reads = read.1; is = sym same };
        only = λ other h. h.is ∙ ap made_manifest (one_value _ _ _ h.reads read.1) ∙ same;
        spelled = ap spell (manifests.one_item (unplaced_manifest m) m (manifest_twice m)) ∙ sym (manifests.again place said.manifest m manifest);
      }
