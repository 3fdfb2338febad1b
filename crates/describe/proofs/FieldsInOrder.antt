-- The fields of a description in the order of their keys.
use Rattle.std.proofs.Common.{◌≡◌, ℕ, ◌≤◌, suc, List, [], ◌∷◌, length, map, Some, option_map, refl, ap, ◌∙◌, arith}
use Rattle.std.specs.Prelude.{codes}
use Rattle.std.proofs.lemmas.Bool.Decides.{nat_tests}
use Rattle.serde_json.specs.Data.{string, object}
use Rattle.serde_json.specs.Events.{items_len}
use Rattle.serde_json.specs.Find.{get}
use Rattle.serde_json.specs.View.{items_of}
use Rattle.suit_envelope.specs.Envelopes.{EnvelopeSays}
use Rattle.suit_manifest.specs.declared.manifest.Manifest.{Manifest}
use Rattle.suit_manifest.specs.declared.manifest.Members.{Members as ApartMembers}
use Rattle.author.specs.Descriptions.{count_in, capped_count}
use Rattle.describe.specs.ValueData.{number_data, identifier_data, identifiers_data}
use Rattle.describe.specs.CommandData.{sequence_if}
use Rattle.describe.specs.MemberData.{member_data, text_data}
use Rattle.describe.specs.SeverData.{severed_names, sever_data}
use Rattle.describe.specs.PayloadData.{payloads_data}
use Rattle.describe.specs.Describing.{Field, with_fields, head_fields, sequence_fields, severable_fields, payload_fields, text_there, severed_in, described_members, described_by}
use Rattle.describe.proofs.Chains.{chain, all_placed, fields_placed, found, get_chain, or_none}

module _ (said : EnvelopeSays) (payloads : List (List ℕ × List ℕ)) (m : Manifest) (apart : ApartMembers) where
  abbrev pub in_order : List Field
  in_order =
      (codes "components", Some (identifiers_data m.components))
      ∷ (codes "install", member_data m.install apart.install)
      ∷ (codes "invoke", sequence_if m.invoke)
      ∷ (codes "load", sequence_if m.load)
      ∷ (codes "payload-fetch", member_data m.payload_fetch apart.payload_fetch)
      ∷ (codes "payloads", payloads_data payloads)
      ∷ (codes "reference", option_map (λ text. string text) m.reference)
      ∷ (codes "sequence", Some (number_data m.sequence))
      ∷ (codes "sever", sever_data (severed_names (severed_in said m apart)))
      ∷ (codes "shared", sequence_if m.shared)
      ∷ (codes "text", text_data m.text (text_there said m))
      ∷ (codes "validate", sequence_if m.validate)
      ∷ []

  abbrev heads : List Field
  heads = all_placed (head_fields m) []

  abbrev and_sequences : List Field
  and_sequences = all_placed (sequence_fields m) heads

  abbrev and_severable : List Field
  and_severable = all_placed (severable_fields said m apart) and_sequences

  pub members_in_order : described_members said payloads m apart ≡ chain in_order
  members_in_order =
      ap (λ ms. with_fields (payload_fields payloads) (with_fields (severable_fields said m apart) (with_fields (sequence_fields m) ms))) (fields_placed (head_fields m) [] refl)
      ∙ ap (λ ms. with_fields (payload_fields payloads) (with_fields (severable_fields said m apart) ms)) (fields_placed (sequence_fields m) heads refl)
      ∙ ap (with_fields (payload_fields payloads)) (fields_placed (severable_fields said m apart) and_sequences refl)
      ∙ fields_placed (payload_fields payloads) and_severable refl

  under_key : (k : List ℕ) → get k (described_by said payloads m apart) ≡ found k in_order
  under_key k = ap (λ ms. get k (object ms)) members_in_order ∙ get_chain k in_order

  pub payload_fetch_field : get (codes "payload-fetch") (described_by said payloads m apart) ≡ member_data m.payload_fetch apart.payload_fetch
  payload_fetch_field = under_key (codes "payload-fetch") ∙ or_none (member_data m.payload_fetch apart.payload_fetch)

  pub install_field : get (codes "install") (described_by said payloads m apart) ≡ member_data m.install apart.install
  install_field = under_key (codes "install") ∙ or_none (member_data m.install apart.install)

  pub text_field : get (codes "text") (described_by said payloads m apart) ≡ text_data m.text (text_there said m)
  text_field = under_key (codes "text") ∙ or_none (text_data m.text (text_there said m))

  -- ---- how many components are listed

  counted : (ids : List (List (List ℕ))) → items_len (items_of (map identifier_data ids)) ≡ length ids
  counted [] = refl
  counted (id ∷ ids) = ap suc (counted ids)

  few_counted : (n : ℕ) → n ≤ 8 → capped_count n ≡ n
  few_counted n h = grind (arith, nat_tests)

  pub count_read : length m.components ≤ 8 → count_in (described_by said payloads m apart) ≡ length m.components
  count_read few = rw (under_key (codes "components")) (ap capped_count (counted m.components) ∙ few_counted (length m.components) few)
