-- The description of an envelope and its manifest, with those severed members that are given.
use Rattle.std.specs.Prelude.{ℕ, List, [], ◌∷◌, codes, Option, Some, None, option_map, is_some}
use Rattle.serde_json.specs.Data.{Data, string, object, Members, no_members, put}
use Rattle.suit_envelope.specs.Envelopes.{EnvelopeSays}
use Rattle.suit_manifest.specs.declared.manifest.Manifest.{Manifest}
use Rattle.suit_manifest.specs.declared.manifest.Members.{Members as ApartMembers}
use Rattle.author.specs.declared.severing.Severed.{Severed}
use Rattle.describe.specs.ValueData.{number_data, identifiers_data}
use Rattle.describe.specs.CommandData.{sequence_if}
use Rattle.describe.specs.MemberData.{member_data, is_severed, member_kind, apart_text, text_data, text_kind}
use Rattle.describe.specs.SeverData.{severed_names, sever_data}
use Rattle.describe.specs.PayloadData.{payloads_data}

-- ---- fields of an object, of which some are there; its members ascend by their keys, whatever the order here

abbrev pub Field : Type 0
Field = List ℕ × Option Data

abbrev pub with_field : List ℕ → Option Data → Members → Members
with_field key None ms = ms
with_field key (Some d) ms = put key d ms

abbrev pub with_fields : List Field → Members → Members
with_fields [] ms = ms
with_fields (f ∷ fs) ms = with_fields fs (with_field f.0 f.1 ms)

-- ---- the fields of a description

abbrev pub head_fields : Manifest → List Field
head_fields m =
    (codes "sequence", Some (number_data m.sequence))
    ∷ (codes "components", Some (identifiers_data m.components))
    ∷ (codes "reference", option_map (λ text. string text) m.reference)
    ∷ []

abbrev pub sequence_fields : Manifest → List Field
sequence_fields m =
    (codes "shared", sequence_if m.shared)
    ∷ (codes "validate", sequence_if m.validate)
    ∷ (codes "load", sequence_if m.load)
    ∷ (codes "invoke", sequence_if m.invoke)
    ∷ []

-- the content of a severed text, if the envelope holds it
abbrev pub text_there : EnvelopeSays → Manifest → Option (List ℕ)
text_there said m = apart_text m.text said.text

abbrev pub severed_in : EnvelopeSays → Manifest → ApartMembers → Severed
severed_in said m apart = record {
  payload_fetch = is_severed m.payload_fetch apart.payload_fetch;
  install = is_severed m.install apart.install;
  text = is_some (text_there said m);
  kinds = record {
    payload_fetch = member_kind m.payload_fetch apart.payload_fetch;
    install = member_kind m.install apart.install;
    text = text_kind m.text (text_there said m);
  };
}

abbrev pub severable_fields : EnvelopeSays → Manifest → ApartMembers → List Field
severable_fields said m apart =
    (codes "payload-fetch", member_data m.payload_fetch apart.payload_fetch)
    ∷ (codes "install", member_data m.install apart.install)
    ∷ (codes "text", text_data m.text (text_there said m))
    ∷ (codes "sever", sever_data (severed_names (severed_in said m apart)))
    ∷ []

abbrev pub payload_fields : List (List ℕ × List ℕ) → List Field
payload_fields payloads = (codes "payloads", payloads_data payloads) ∷ []

abbrev pub described_members : EnvelopeSays → List (List ℕ × List ℕ) → Manifest → ApartMembers
    → Members
described_members said payloads m apart =
    with_fields (payload_fields payloads)
    (with_fields (severable_fields said m apart)
    (with_fields (sequence_fields m) (with_fields (head_fields m) no_members)))

abbrev pub described_by : EnvelopeSays → List (List ℕ × List ℕ) → Manifest → ApartMembers → Data
described_by said payloads m apart = object (described_members said payloads m apart)
