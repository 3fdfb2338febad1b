-- A description without the contents of its severed members: the digest of no bytes is in their place. The wrapper and
-- the manifest that are made from it have the same lengths.
use Rattle.std.specs.Prelude.{ℕ, Bool, true, false, ◌&&◌, if◌then◌else◌, List, [], codes, is_some, Result, Ok}
use Rattle.std.specs.Str.{bytes_eq}
use Rattle.det_cbor.specs.HeadReading.{◌>>=◌}
use Rattle.serde_json.specs.Data.{Data}
use Rattle.serde_json.specs.Find.{as_object}
use Rattle.json_fields.specs.declared.flaw.Flaw.{Flaw}
use Rattle.json_fields.specs.Objects.{Takes, object_of}
use Rattle.suit_params.specs.declared.digest_kind.DigestKind.{DigestKind}
use Rattle.suit_envelope.specs.Members.{string_digest}
use Rattle.suit_manifest.specs.declared.manifest.Member.{Member}
use Rattle.suit_manifest.specs.declared.manifest.Member.TheVariants as members
use Rattle.author.specs.declared.bare.BareFields.{BareFields}
use Rattle.author.specs.declared.fields.Described.{Described}
use Rattle.author.specs.declared.severing.Severed.{Severed}
use Rattle.author.specs.Descriptions.{no_fields, takes_field, finished}

abbrev pub no_content : DigestKind → Member
no_content kind = members.Apart (string_digest kind [])

-- ---- bare parts of what was read

abbrev pub bare_member : Bool → DigestKind → Member → Member
bare_member true kind (members.Here s) = no_content kind
bare_member true kind members.Empty = members.Empty
bare_member true kind (members.Apart digest) = members.Apart digest
bare_member false kind m = m

abbrev pub bare : Severed → Described → Described
bare severed p =
    record p {
      manifest = record p.manifest {
        payload_fetch =
            bare_member severed.payload_fetch severed.kinds.payload_fetch p.manifest.payload_fetch;
        install = bare_member severed.install severed.kinds.install p.manifest.install;
      };
    }

-- ---- reading bare parts

abbrev pub takes_other : Takes BareFields
takes_other t key d = takes_field t.fields key d >>= λ fields. Ok (record t { fields = fields })

abbrev pub takes_bare : Takes BareFields
takes_bare t key d =
    if is_some (as_object d) then takes_other t key d
    else if bytes_eq key (codes "payload-fetch") && t.severed.payload_fetch
    then
    Ok (record t {
      fields = record t.fields { payload_fetch = no_content t.severed.kinds.payload_fetch };
    })
    else if bytes_eq key (codes "install") && t.severed.install
    then
    Ok (record t {
      fields = record t.fields { install = no_content t.severed.kinds.install };
    })
    else takes_other t key d

abbrev pub described_bare : List (List ℕ × List ℕ) → Severed → Data → Result Described Flaw
described_bare files severed d =
    object_of takes_bare (record { fields = no_fields files d; severed = severed }) d
    >>= λ t. finished t.fields
