-- The whole description is read as it is written.
use Rattle.std.proofs.Common.{◌≡◌, ℕ, ◌<◌, ◌≤◌, ◌^◌, true, false, List, length, Option, Some, None, Ok, refl, sym, ap, subst, ◌∙◌, arith}
use Rattle.std.specs.Prelude.{IfSome, is_some}
use Rattle.std.specs.List.{AllByRecursion}
use Rattle.serde_json.specs.Data.{Data}
use Rattle.json_fields.specs.Objects.{members_of}
use Rattle.suit_params.specs.declared.digest_kind.DigestKind.TheVariants.{Sha256}
use Rattle.suit_commands.specs.Allowed.{IsSequence, levels_allowed}
use Rattle.suit_commands.specs.Tree.{SequenceTree}
use Rattle.suit_envelope.specs.Envelopes.{EnvelopeSays}
use Rattle.suit_manifest.specs.declared.manifest.Manifest.{Manifest}
use Rattle.suit_manifest.specs.declared.manifest.Member.{Member}
use Rattle.suit_manifest.specs.declared.manifest.Member.TheVariants as members
use Rattle.suit_manifest.specs.declared.manifest.Members.{Members as ApartMembers}
use Rattle.suit_manifest.specs.declared.manifest.TextMember.{TextMember}
use Rattle.suit_manifest.specs.declared.manifest.TextMember.TheVariants as texts
use Rattle.suit_manifest.specs.ManifestMaking.{unplaced_held}
use Rattle.suit_manifest.specs.Manifests.{count_said}
use Rattle.author.specs.Descriptions.{no_fields, takes_field, whole, described}
use Rattle.author.specs.Severing.{is_content}
use Rattle.describe.specs.MemberData.{member_data, is_severed, member_kind, text_data, text_kind}
use Rattle.describe.specs.Describing.{text_there, severed_in, described_members, described_by}
use Rattle.describe.proofs.FieldsInOrder.{in_order, members_in_order, payload_fetch_field, install_field, text_field, count_read}
use Rattle.describe.proofs.FieldsTaken.{ReadsTo, reads_to, components_taken, number_taken, reference_taken, shared_taken, validate_taken, load_taken, invoke_taken, read_member, MemberReads, install_taken, payload_fetch_taken, read_text, TextReads, text_taken, sever_taken, payloads_taken}
use Rattle.describe.proofs.IdentifiersRead.{IsReadable}
use Rattle.describe.proofs.PayloadFacts.{HoldBytes}
use Rattle.describe.proofs.ReadTypes.{Fields, Described}
use Rattle.describe.proofs.SeverRead.{AreGiven}

-- ---- severed members are given with their content

given_member : (x : Member) (apart : Option SequenceTree) → is_severed x apart ≡ true → is_content (member_data x apart) ≡ true
given_member members.Empty apart h = absurd cc
given_member (members.Here s) apart h = refl
given_member (members.Apart digest) (Some s) h = refl
given_member (members.Apart digest) None h = absurd cc

-- another one has no hash function of its own

plain_member : (x : Member) (apart : Option SequenceTree) → is_severed x apart ≡ false → member_kind x apart ≡ Sha256
plain_member members.Empty apart h = refl
plain_member (members.Here s) apart h = refl
plain_member (members.Apart digest) (Some s) h = absurd cc
plain_member (members.Apart digest) None h = refl

plain_text : (x : TextMember) (apart : Option (List ℕ)) → is_some apart ≡ false → text_kind x apart ≡ Sha256
plain_text texts.Empty apart h = refl
plain_text (texts.Here content) apart h = refl
plain_text (texts.Apart digest) (Some content) h = absurd cc
plain_text (texts.Apart digest) None h = refl

not_some : (a : Option (List ℕ)) → a ≡ None → is_some a ≡ true → ⊥
not_some None e h = absurd cc
not_some (Some content) e h = absurd cc

given_text : (x : TextMember) (apart : Option (List ℕ)) → (x ≡ texts.Empty → apart ≡ None) → is_some apart ≡ true → is_content (text_data x apart) ≡ true
given_text texts.Empty apart none h = absurd (not_some apart (none refl) h)
given_text (texts.Here content) apart none h = refl
given_text (texts.Apart digest) (Some content) none h = refl
given_text (texts.Apart digest) None none h = absurd cc

-- ---- facts about an envelope and its manifest

pub record AreReadable (said : EnvelopeSays) (payloads : List (List ℕ × List ℕ)) (m : Manifest) (apart : ApartMembers) : Type 0 where
  pub sequence : m.sequence < 2 ^ 64
  pub some : 1 ≤ length m.components
  pub few : length m.components ≤ 8
  pub components : AllByRecursion IsReadable m.components
  pub shared : IfSome m.shared (IsSequence true (count_said m) levels_allowed)
  pub validate : IfSome m.validate (IsSequence false (count_said m) levels_allowed)
  pub load : IfSome m.load (IsSequence false (count_said m) levels_allowed)
  pub invoke : IfSome m.invoke (IsSequence false (count_said m) levels_allowed)
  pub payload_fetch : MemberReads (count_said m) m.payload_fetch apart.payload_fetch
  pub install : MemberReads (count_said m) m.install apart.install
  pub text : TextReads m.text (text_there said m)
  pub payloads_hold : HoldBytes payloads

module _ (said : EnvelopeSays) (payloads : List (List ℕ × List ℕ)) (m : Manifest) (apart : ApartMembers) (h : AreReadable said payloads m apart) (files : List (List ℕ × List ℕ)) where
  abbrev d : Data
  d = described_by said payloads m apart

  -- ---- the fields that were read, after each field in the order of the keys

  abbrev t0 : Fields
  t0 = no_fields files d

  abbrev t1 : Fields
  t1 = record t0 { components = Some m.components }

  abbrev t2 : Fields
  t2 = record t1 { install = read_member m.install apart.install }

  abbrev t3 : Fields
  t3 = record t2 { invoke = unplaced_held m.invoke }

  abbrev t4 : Fields
  t4 = record t3 { load = unplaced_held m.load }

  abbrev t5 : Fields
  t5 = record t4 { payload_fetch = read_member m.payload_fetch apart.payload_fetch }

  abbrev t6 : List (List ℕ × List ℕ) → Fields
  t6 list = record t5 { payloads = list }

  abbrev t7 : List (List ℕ × List ℕ) → Fields
  t7 list = record (t6 list) { reference = m.reference }

  abbrev t8 : List (List ℕ × List ℕ) → Fields
  t8 list = record (t7 list) { sequence = Some m.sequence }

  abbrev t9 : List (List ℕ × List ℕ) → Fields
  t9 list = record (t8 list) { severed = severed_in said m apart }

  abbrev t10 : List (List ℕ × List ℕ) → Fields
  t10 list = record (t9 list) { shared = unplaced_held m.shared }

  abbrev t11 : List (List ℕ × List ℕ) → Fields
  t11 list = record (t10 list) { text = read_text m.text (text_there said m) }

  abbrev t12 : List (List ℕ × List ℕ) → Fields
  t12 list = record (t11 list) { validate = unplaced_held m.validate }

  -- ---- how many components there are

  count : t0.source.scope.count ≡ count_said m
  count = count_read said payloads m apart h.few

  small : t0.source.scope.count ≤ 2 ^ 64
  small = let few : length m.components ≤ 8 = h.few in let e : t0.source.scope.count ≡ length m.components = count in omega (arith, few, e)

  for_count : (P : ℕ → Type 0) → P (count_said m) → P t0.source.scope.count
  for_count P p = subst P (sym count) p

  given : AreGiven t0.source.given (severed_in said m apart)
  given = record {
    payload_fetch = λ e. ap is_content (payload_fetch_field said payloads m apart) ∙ given_member m.payload_fetch apart.payload_fetch e;
    install = λ e. ap is_content (install_field said payloads m apart) ∙ given_member m.install apart.install e;
    text = λ e. ap is_content (text_field said payloads m apart) ∙ given_text m.text (text_there said m) (λ empty. rw empty refl) e;
    payload_fetch_plain = plain_member m.payload_fetch apart.payload_fetch;
    install_plain = plain_member m.install apart.install;
    text_plain = plain_text m.text (text_there said m);
  }

  payloads_listed : (list : List (List ℕ × List ℕ)) × ReadsTo t0 (in_order said payloads m apart) (t12 list)
  payloads_listed =
      let read = payloads_taken t5 payloads refl h.payloads_hold in
      let list = read.0 in (
        list,
        (
          t1,
          components_taken t0 m.components refl h.some h.components,
          (
            t2,
            install_taken t1 m.install apart.install refl small (for_count (λ n. MemberReads n m.install apart.install) h.install),
            (
              t3,
              invoke_taken t2 m.invoke refl small (for_count (λ n. IfSome m.invoke (IsSequence false n levels_allowed)) h.invoke),
              (
                t4,
                load_taken t3 m.load refl small (for_count (λ n. IfSome m.load (IsSequence false n levels_allowed)) h.load),
                (
                  t5,
                  payload_fetch_taken t4 m.payload_fetch apart.payload_fetch refl small (for_count (λ n. MemberReads n m.payload_fetch apart.payload_fetch) h.payload_fetch),
                  (
                    t6 list,
                    read.1,
                    (
                      t7 list,
                      reference_taken (t6 list) m.reference refl,
                      (
                        t8 list,
                        number_taken (t7 list) m.sequence h.sequence,
                        (
                          t9 list,
                          sever_taken (t8 list) (severed_in said m apart) refl given,
                          (
                            t10 list,
                            shared_taken (t9 list) m.shared refl small (for_count (λ n. IfSome m.shared (IsSequence true n levels_allowed)) h.shared),
                            (
                              t11 list,
                              text_taken (t10 list) m.text (text_there said m) refl h.text,
                              (
                                t12 list,
                                validate_taken (t11 list) m.validate refl small (for_count (λ n. IfSome m.validate (IsSequence false n levels_allowed)) h.validate),
                                refl,
                              ),
                            ),
                          ),
                        ),
                      ),
                    ),
                  ),
                ),
              ),
            ),
          ),
        ),
      )

  -- the parts that were read
  abbrev pub made : List (List ℕ × List ℕ) → Described
  made list = whole (t12 list) m.components m.sequence

  pub reads : (list : List (List ℕ × List ℕ)) × (described files d ≡ Ok (made list))
  reads =
      let list = payloads_listed.0 in
      let all : members_of takes_field t0 (described_members said payloads m apart) ≡ Ok (t12 list) =
      ap (members_of takes_field t0) (members_in_order said payloads m apart) ∙ reads_to t0 (t12 list) (in_order said payloads m apart) payloads_listed.1 in
      (list, rw all refl)
