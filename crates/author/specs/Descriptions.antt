-- The parts of a description whose files have these bytes, or the first flaw of its fields.
use Rattle.std.specs.Prelude.{ℕ, ◌^◌, ◌-◌, nat_lt, Bool, true, false, if◌then◌else◌, List, [], codes, Option, Some, None, unwrap_or, Result, Ok}
use Rattle.std.specs.Str.{bytes_eq}
use Rattle.det_cbor.specs.HeadReading.{◌>>=◌}
use Rattle.hmac_mac0.specs.declared.mac_kind.MacKind.TheVariants as macs
use Rattle.serde_json.specs.Data.{Data}
use Rattle.serde_json.specs.Events.{items_len}
use Rattle.serde_json.specs.Find.{get}
use Rattle.json_fields.specs.declared.flaw.Flaw.{Flaw}
use Rattle.json_fields.specs.declared.flaw.FlawKind.TheVariants.{Field}
use Rattle.json_fields.specs.Flaws.{flawed}
use Rattle.json_fields.specs.Values.{text_of, hex_of}
use Rattle.json_fields.specs.Objects.{Takes, object_of, required}
use Rattle.suit_params.specs.declared.digest_kind.DigestKind.TheVariants as kinds
use Rattle.suit_commands.specs.Tree.{SequenceTree}
use Rattle.suit_manifest.specs.declared.manifest.Member.TheVariants as members
use Rattle.suit_manifest.specs.declared.manifest.TextMember.TheVariants as texts
use Rattle.author.specs.declared.fields.Described.{Described}
use Rattle.author.specs.declared.fields.Fields.{Fields}
use Rattle.author.specs.Scope.{Scope}
use Rattle.author.specs.Elements.{items_in}
use Rattle.author.specs.ParamValues.{number_of}
use Rattle.author.specs.Identifiers.{identifiers_of}
use Rattle.author.specs.AlgorithmNames.{algorithm_of}
use Rattle.author.specs.MacNames.{mac_kind_of}
use Rattle.author.specs.Members.{member_sequence, described_member, text_member_of}
use Rattle.author.specs.Severing.{none_severed, given_in, severed_of}
use Rattle.author.specs.Payloads.{payloads_of}

-- how many identifiers are listed, capped at 32 bits as an index is
abbrev pub capped_count : ℕ → ℕ
capped_count n = if nat_lt n (2 ^ 32 - 1) then n else 2 ^ 32 - 1

abbrev pub listed : Option Data → ℕ
listed None = 0
listed (Some d) = capped_count (items_len (items_in d))

abbrev pub count_in : Data → ℕ
count_in d = listed (get (codes "components") d)

-- ---- the fields that have been read

abbrev pub no_fields : List (List ℕ × List ℕ) → Data → Fields
no_fields files d = record {
  source = record {
    scope = record { files = files; shared = false; count = count_in d };
    given = given_in d;
  };
  sequence = None;
  components = None;
  shared = None;
  reference = None;
  validate = None;
  load = None;
  invoke = None;
  payload_fetch = members.Empty;
  install = members.Empty;
  text = texts.Empty;
  severed = none_severed;
  payloads = [];
  kid = None;
  mac = macs.Hmac256;
  algorithm = kinds.Sha256;
}

abbrev pub scope_of : Fields → Bool → Scope
scope_of t shared = record t.source.scope { shared = shared }

abbrev pub field_sequence : Fields → Bool → Data → Result SequenceTree Flaw
field_sequence t shared d = member_sequence (scope_of t shared) d

-- what is in the envelope besides the manifest
abbrev pub takes_beside : Takes Fields
takes_beside t key d =
    if bytes_eq key (codes "payloads")
    then (payloads_of t.source.scope.files d >>= λ ps. Ok (record t { payloads = ps }))
    else if bytes_eq key (codes "kid") then (hex_of d >>= λ kid. Ok (record t { kid = Some kid }))
    else if bytes_eq key (codes "mac") then (mac_kind_of d >>= λ mac. Ok (record t { mac = mac }))
    else if bytes_eq key (codes "algorithm")
    then (algorithm_of d >>= λ kind. Ok (record t { algorithm = kind }))
    else flawed Field

-- a member that may be severed, or the names of those that are
abbrev pub takes_member : Takes Fields
takes_member t key d =
    if bytes_eq key (codes "payload-fetch")
    then (described_member (scope_of t false) d >>= λ m. Ok (record t { payload_fetch = m }))
    else if bytes_eq key (codes "install")
    then (described_member (scope_of t false) d >>= λ m. Ok (record t { install = m }))
    else if bytes_eq key (codes "text") then (text_member_of d >>= λ m. Ok (record t { text = m }))
    else if bytes_eq key (codes "sever")
    then (severed_of t.source.given d >>= λ s. Ok (record t { severed = s }))
    else takes_beside t key d

-- a sequence that is never severed
abbrev pub takes_sequence : Takes Fields
takes_sequence t key d =
    if bytes_eq key (codes "shared")
    then (field_sequence t true d >>= λ s. Ok (record t { shared = Some s }))
    else if bytes_eq key (codes "validate")
    then (field_sequence t false d >>= λ s. Ok (record t { validate = Some s }))
    else if bytes_eq key (codes "load")
    then (field_sequence t false d >>= λ s. Ok (record t { load = Some s }))
    else if bytes_eq key (codes "invoke")
    then (field_sequence t false d >>= λ s. Ok (record t { invoke = Some s }))
    else takes_member t key d

-- an object has each key once; if `components` were there twice, the first would count, as it does above
abbrev pub takes_field : Takes Fields
takes_field t key d =
    if bytes_eq key (codes "sequence")
    then (number_of d >>= λ n. Ok (record t { sequence = Some n }))
    else if bytes_eq key (codes "components")
    then
    (identifiers_of d
    >>= λ ids. Ok (record t { components = Some (unwrap_or t.components ids) }))
    else if bytes_eq key (codes "reference")
    then (text_of d >>= λ text. Ok (record t { reference = Some text }))
    else takes_sequence t key d

abbrev pub whole : Fields → List (List (List ℕ)) → ℕ → Described
whole t ids n = record {
  manifest = record {
    sequence = n;
    components = ids;
    shared = t.shared;
    reference = t.reference;
    validate = t.validate;
    load = t.load;
    invoke = t.invoke;
    payload_fetch = t.payload_fetch;
    install = t.install;
    text = t.text;
  };
  severed = t.severed;
  payloads = t.payloads;
  kid = t.kid;
  mac = t.mac;
  algorithm = t.algorithm;
}

abbrev pub finished : Fields → Result Described Flaw
finished t =
    required (codes "components") t.components >>= λ ids. required (codes "sequence") t.sequence
    >>= λ n. Ok (whole t ids n)

abbrev pub described : List (List ℕ × List ℕ) → Data → Result Described Flaw
described files d = object_of takes_field (no_fields files d) d >>= λ t. finished t
