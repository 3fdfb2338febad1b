-- Each field of a description is taken as it is written.
use Rattle.std.proofs.Common.{◌≡◌, ℕ, ◌<◌, ◌≤◌, ◌^◌, ◌-◌, Bool, true, false, List, [], ◌∷◌, length, Option, Some, None, option_map, Result, Ok, unwrap_or, refl, ap, ◌∙◌, arith}
use Rattle.std.specs.Prelude.{codes, IfSome}
use Rattle.std.specs.List.{AllByRecursion}
use Rattle.std.specs.Result.{result_ok}
use Rattle.det_cbor.specs.DataItem.{IsByte}
use Rattle.det_cbor.specs.HeadReading.{◌>>=◌}
use Rattle.serde_json.specs.Data.{Data, string, Items, no_items, item}
use Rattle.json_fields.specs.declared.flaw.Flaw.{Flaw}
use Rattle.json_fields.specs.Objects.{members_of}
use Rattle.suit_commands.specs.Allowed.{IsSequence, levels_allowed}
use Rattle.suit_commands.specs.SequenceMaking.{unplaced}
use Rattle.suit_commands.specs.Tree.{SequenceTree}
use Rattle.suit_manifest.specs.declared.manifest.Member.{Member}
use Rattle.suit_manifest.specs.declared.manifest.Member.TheVariants as members
use Rattle.suit_manifest.specs.declared.manifest.TextMember.{TextMember}
use Rattle.suit_manifest.specs.declared.manifest.TextMember.TheVariants as texts
use Rattle.suit_manifest.specs.ManifestMaking.{unplaced_held}
use Rattle.suit_params.specs.DigestBytes.{IsDigestBytes}
use Rattle.author.specs.Descriptions.{scope_of, field_sequence, takes_field}
use Rattle.author.specs.Members.{described_member, is_one_item}
use Rattle.author.specs.Severing.{none_severed, severed_from}
use Rattle.author.specs.declared.severing.Severed.{Severed}
use Rattle.describe.specs.ValueData.{number_data, identifiers_data}
use Rattle.describe.specs.CommandData.{sequence_data, sequence_if}
use Rattle.describe.specs.MemberData.{digest_data, member_data, text_data}
use Rattle.describe.specs.SeverData.{severed_names, sever_data}
use Rattle.describe.specs.PayloadData.{payloads_data}
use Rattle.describe.specs.Describing.{Field}
use Rattle.describe.proofs.Chains.{chain}
use Rattle.describe.proofs.CommandsRead.{sequence_read}
use Rattle.describe.proofs.IdentifiersRead.{IsReadable, identifiers_read}
use Rattle.describe.proofs.MembersRead.{here_read, apart_read, text_read, apart_text_read}
use Rattle.describe.proofs.PayloadsRead.{payloads_read}
use Rattle.describe.proofs.ReadTypes.{Fields}
use Rattle.describe.proofs.SeverRead.{AreGiven, severed_read}
use Rattle.describe.proofs.ValuesRead.{number_read}

-- ---- one field, and one after another

abbrev pub TakesIf : Fields → List ℕ → Option Data → Fields → Type 0
TakesIf t k None u = t ≡ u
TakesIf t k (Some d) u = takes_field t k d ≡ Ok u

abbrev pub ReadsTo : Fields → List Field → Fields → Type 0
ReadsTo t [] w = t ≡ w
ReadsTo t (f ∷ fs) w = (u : Fields) × TakesIf t f.0 f.1 u × ReadsTo u fs w

read_if : (t u : Fields) (k : List ℕ) (v : Option Data) (fs : List Field) → TakesIf t k v u → members_of takes_field t (chain ((k, v) ∷ fs)) ≡ members_of takes_field u (chain fs)
read_if t u k None fs h = ap (λ x. members_of takes_field x (chain fs)) h
read_if t u k (Some d) fs h = rw h refl

pub reads_to : (t w : Fields) (fs : List Field) → ReadsTo t fs w → members_of takes_field t (chain fs) ≡ Ok w
reads_to t w [] h = ap (λ x. Ok x) h
reads_to t w (f ∷ fs) h = read_if t h.0 f.0 f.1 fs h.1 ∙ reads_to h.0 w fs h.2

-- ---- heads

pub components_taken : (t : Fields) (ids : List (List (List ℕ))) → t.components ≡ None → 1 ≤ length ids → AllByRecursion IsReadable ids
    → TakesIf t (codes "components") (Some (identifiers_data ids)) (record t { components = Some ids })
components_taken t ids empty some h = rw (identifiers_read ids some h, empty) refl

pub number_taken : (t : Fields) (n : ℕ) → n < 2 ^ 64 → TakesIf t (codes "sequence") (Some (number_data n)) (record t { sequence = Some n })
number_taken t n h = rw (number_read (2 ^ 64 - 1) n (omega arith)) refl

pub reference_taken : (t : Fields) (reference : Option (List ℕ)) → t.reference ≡ None
    → TakesIf t (codes "reference") (option_map (λ text. string text) reference) (record t { reference = reference })
reference_taken t None empty = ap (λ x. record t { reference = x }) empty
reference_taken t (Some text) empty = refl

-- ---- sequences

-- a sequence of the grammar
abbrev pub IsHeld : Bool → Fields → SequenceTree → Type 0
IsHeld shared t s = IsSequence shared t.source.scope.count levels_allowed s

sequence_taken : (t : Fields) (shared : Bool) (s : SequenceTree) → t.source.scope.count ≤ 2 ^ 64 → IsHeld shared t s → field_sequence t shared (sequence_data s) ≡ Ok (unplaced s)
sequence_taken t shared s small h = sequence_read (scope_of t shared) small levels_allowed s h

-- a field that holds a sequence, by how it is set
abbrev TakesHeld : Bool → List ℕ → (Fields → Option SequenceTree → Fields) → Type 0
TakesHeld shared key set =
    (t : Fields) (s : Option SequenceTree) → t ≡ set t None → t.source.scope.count ≤ 2 ^ 64 → IfSome s (IsHeld shared t) → TakesIf t key (sequence_if s) (set t (unplaced_held s))

held_taken : (shared : Bool) (key : List ℕ) (set : Fields → Option SequenceTree → Fields) → ((t : Fields) (d : Data) → takes_field t key d ≡ (field_sequence t shared d >>= λ s. Ok (set t (Some s)))) → TakesHeld shared key set
held_taken shared key set takes t None empty small h = empty
held_taken shared key set takes t (Some s) empty small h = takes t (sequence_data s) ∙ rw (sequence_taken t shared s small h) refl

pub shared_taken : TakesHeld true (codes "shared") (λ t s. record t { shared = s })
shared_taken = held_taken true (codes "shared") (λ t s. record t { shared = s }) (λ t d. refl)

pub validate_taken : TakesHeld false (codes "validate") (λ t s. record t { validate = s })
validate_taken = held_taken false (codes "validate") (λ t s. record t { validate = s }) (λ t d. refl)

pub load_taken : TakesHeld false (codes "load") (λ t s. record t { load = s })
load_taken = held_taken false (codes "load") (λ t s. record t { load = s }) (λ t d. refl)

pub invoke_taken : TakesHeld false (codes "invoke") (λ t s. record t { invoke = s })
invoke_taken = held_taken false (codes "invoke") (λ t s. record t { invoke = s }) (λ t d. refl)

-- ---- members that may stand apart

-- a member as it is read: the content where it is known
abbrev pub read_member : Member → Option SequenceTree → Member
read_member members.Empty apart = members.Empty
read_member (members.Here s) apart = members.Here (unplaced s)
read_member (members.Apart digest) (Some s) = members.Here (unplaced s)
read_member (members.Apart digest) None = members.Apart digest

abbrev pub MemberReads : ℕ → Member → Option SequenceTree → Type 0
MemberReads count members.Empty apart = Unit {0}
MemberReads count (members.Here s) apart = IsSequence false count levels_allowed s
MemberReads count (members.Apart digest) (Some s) = IsSequence false count levels_allowed s
MemberReads count (members.Apart digest) None = IsDigestBytes digest

-- a member's field, by how it is set
abbrev TakesMember : List ℕ → (Fields → Member → Fields) → Type 0
TakesMember key set =
    (t : Fields) (x : Member) (apart : Option SequenceTree) → t ≡ set t members.Empty → t.source.scope.count ≤ 2 ^ 64 → MemberReads t.source.scope.count x apart → TakesIf t key (member_data x apart) (set t (read_member x apart))

member_taken : (key : List ℕ) (set : Fields → Member → Fields) → ((t : Fields) (d : Data) → takes_field t key d ≡ (described_member (scope_of t false) d >>= λ m. Ok (set t m))) → TakesMember key set
member_taken key set takes t members.Empty apart empty small h = empty
member_taken key set takes t (members.Here s) apart empty small h = takes t (sequence_data s) ∙ rw (here_read (scope_of t false) s small h) refl
member_taken key set takes t (members.Apart digest) (Some s) empty small h = takes t (sequence_data s) ∙ rw (here_read (scope_of t false) s small h) refl
member_taken key set takes t (members.Apart digest) None empty small h = takes t (digest_data digest) ∙ rw (apart_read (scope_of t false) digest h) refl

pub install_taken : TakesMember (codes "install") (λ t m. record t { install = m })
install_taken = member_taken (codes "install") (λ t m. record t { install = m }) (λ t d. refl)

pub payload_fetch_taken : TakesMember (codes "payload-fetch") (λ t m. record t { payload_fetch = m })
payload_fetch_taken = member_taken (codes "payload-fetch") (λ t m. record t { payload_fetch = m }) (λ t d. refl)

abbrev pub read_text : TextMember → Option (List ℕ) → TextMember
read_text texts.Empty apart = texts.Empty
read_text (texts.Here content) apart = texts.Here content
read_text (texts.Apart digest) (Some content) = texts.Here content
read_text (texts.Apart digest) None = texts.Apart digest

abbrev pub IsTextItem : List ℕ → Type 0
IsTextItem content = AllByRecursion IsByte content × (is_one_item content ≡ true)

abbrev pub TextReads : TextMember → Option (List ℕ) → Type 0
TextReads texts.Empty apart = Unit {0}
TextReads (texts.Here content) apart = IsTextItem content
TextReads (texts.Apart digest) (Some content) = IsTextItem content
TextReads (texts.Apart digest) None = IsDigestBytes digest

pub text_taken : (t : Fields) (x : TextMember) (apart : Option (List ℕ)) → t.text ≡ texts.Empty → TextReads x apart
    → TakesIf t (codes "text") (text_data x apart) (record t { text = read_text x apart })
text_taken t texts.Empty apart empty h = ap (λ x. record t { text = x }) empty
text_taken t (texts.Here content) apart empty h = rw (text_read content h.0 h.1) refl
text_taken t (texts.Apart digest) (Some content) empty h = rw (text_read content h.0 h.1) refl
text_taken t (texts.Apart digest) None empty h = rw (apart_text_read digest h) refl

-- ---- names of severed members

ok_inj : {A : Type 0} (x y : A) → ◌≡◌ {A = Result A Flaw} (Ok x) (Ok y) → x ≡ y
ok_inj x y e = ap (λ r. unwrap_or (result_ok r) x) e

sever_by : (t : Fields) (s : Severed) (ds : Items) → t.severed ≡ none_severed → severed_from t.source.given 0 none_severed ds ≡ Ok s
    → TakesIf t (codes "sever") (sever_data ds) (record t { severed = s })
sever_by t s no_items empty h = ap (λ x. record t { severed = x }) (empty ∙ ok_inj none_severed s h)
sever_by t s (item d ds) empty h = rw h refl

pub sever_taken : (t : Fields) (s : Severed) → t.severed ≡ none_severed → AreGiven t.source.given s
    → TakesIf t (codes "sever") (sever_data (severed_names s)) (record t { severed = s })
sever_taken t s empty given = sever_by t s (severed_names s) empty (severed_read t.source.given s given)

-- ---- payloads

pub payloads_taken : (t : Fields) (ps : List (List ℕ × List ℕ)) → t.payloads ≡ [] → AllByRecursion (λ p. AllByRecursion IsByte p.1) ps
    → (list : List (List ℕ × List ℕ)) × TakesIf t (codes "payloads") (payloads_data ps) (record t { payloads = list })
payloads_taken t [] empty h = ([], ap (λ x. record t { payloads = x }) empty)
payloads_taken t (p ∷ ps) empty h =
    let read = payloads_read t.source.scope.files (p ∷ ps) h in
    (read.0, rw read.1 refl)
