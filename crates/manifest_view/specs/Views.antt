-- Borrowed manifests and their parts, as what they spell.
use Rattle.std.specs.Prelude.{ℕ, List, Option, Some, None, Result, Ok}
use Rattle.std.specs.Borrow.{Bor}
use Rattle.det_cbor.specs.HeadReading.{◌>>=◌}
use Rattle.det_cbor.specs.Position.{Position}
use Rattle.suit_params.specs.declared.refusal.Refusal.{Refusal}
use Rattle.suit_params.specs.Reading.{content_from, only_from}
use Rattle.suit_manifest.specs.declared.manifest.Manifest.{Manifest}
use Rattle.suit_manifest.specs.declared.manifest.Member.{Member}
use Rattle.suit_manifest.specs.declared.manifest.Member.TheVariants as members
use Rattle.suit_manifest.specs.declared.manifest.TextMember.{TextMember}
use Rattle.suit_manifest.specs.declared.manifest.TextMember.TheVariants as texts
use Rattle.suit_manifest.specs.Common.{CommonSays}
use Rattle.manifest_view.specs.declared.common.Common.{Common as LentCommon}
use Rattle.manifest_view.specs.declared.member.MemberView.{MemberView}
use Rattle.manifest_view.specs.declared.member.MemberView.TheVariants as lent
use Rattle.manifest_view.specs.declared.member.TextView.{TextView}
use Rattle.manifest_view.specs.declared.member.TextView.TheVariants as lent_texts
use Rattle.manifest_view.specs.declared.view.ManifestView.{ManifestView}

-- ---- members

abbrev pub member_of : MemberView → Member
member_of lent.Empty = members.Empty
member_of (lent.Here s) = members.Here s
member_of (lent.Apart digest) = members.Apart digest

abbrev pub text_of : TextView → TextMember
text_of lent_texts.Empty = texts.Empty
text_of (lent_texts.Here bytes) = texts.Here bytes.now
text_of (lent_texts.Apart digest) = texts.Apart digest

abbrev pub lent_text : Option (Bor (List ℕ)) → Option (List ℕ)
lent_text None = None
lent_text (Some text) = Some text.now

-- ---- manifests

abbrev pub manifest_of : ManifestView → Manifest
manifest_of view = record {
  sequence = view.sequence;
  components = view.components;
  shared = view.shared;
  reference = lent_text view.reference;
  validate = view.validate;
  load = view.load;
  invoke = view.invoke;
  payload_fetch = member_of view.payload_fetch;
  install = member_of view.install;
  text = text_of view.text;
}

-- ---- the steps of reading

-- the content of a byte string that holds one item
abbrev pub content_at : Position → Result (List ℕ) Refusal
content_at p = content_from p >>= λ c. only_from c.0 >>= λ _. Ok c.0.left

abbrev pub common_of : LentCommon → CommonSays
common_of common = record { components = common.components; shared = common.shared }
