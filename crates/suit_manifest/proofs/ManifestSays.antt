-- The items of a written manifest say that manifest.
use Rattle.std.proofs.Common.{◌≡◌, ℕ, Bool, true, false, List, Option, Some, None, refl, inl, inr}
use Rattle.std.specs.Prelude.{IfSome}
use Rattle.std.specs.List.{AllByRecursion}
use Rattle.det_cbor.specs.DataItem.{ByteString, TextString, UnsignedInteger, ArrayOf, spell}
use Rattle.suit_params.specs.declared.digest.Digest.{Digest}
use Rattle.suit_params.specs.Refusing.{SaysHeld, content_place}
use Rattle.suit_params.specs.Params.{pairs_place}
use Rattle.suit_params.specs.DigestBytes.{IsDigestBytes}
use Rattle.suit_params.specs.Digests.{digest_item, IsDigest}
use Rattle.suit_commands.specs.Allowed.{levels_allowed}
use Rattle.suit_commands.specs.Selections.{Among}
use Rattle.suit_commands.specs.Tree.{SequenceTree}
use Rattle.suit_commands.specs.Sequences.{SaysSequence}
use Rattle.suit_commands.specs.SequenceMaking.{sequence_item, inner_item, first_code, placed}
use Rattle.suit_envelope.specs.Envelopes.{entries}
use Rattle.suit_manifest.specs.declared.manifest.Manifest.{Manifest}
use Rattle.suit_manifest.specs.declared.manifest.Member.{Member}
use Rattle.suit_manifest.specs.declared.manifest.Member.TheVariants as members
use Rattle.suit_manifest.specs.declared.manifest.TextMember.{TextMember}
use Rattle.suit_manifest.specs.declared.manifest.TextMember.TheVariants as texts
use Rattle.suit_manifest.specs.Components.{identifier_items, IsComponents}
use Rattle.suit_manifest.specs.Common.{CommonSays, IsCommon, common_keys}
use Rattle.suit_manifest.specs.Maps.{MaySayUnder}
use Rattle.suit_manifest.specs.Manifests.{IsManifest, IsVersion, SaysNumber, SaysText, SaysSevered, SaysHere, SaysApart, SaysTextMember, SaysTextHere, SaysTextApart, SeveredUnder, TextUnder, manifest_keys, count_said}
use Rattle.suit_manifest.specs.ManifestMaking.{Row, row_pairs, place_among, place_under, text_item, held_item, severed_item, text_member_item, common_rows, common_item, manifest_rows, manifest_item, placed_held, placed_severed, value_place, placed_manifest}
use Rattle.suit_manifest.specs.ManifestWriting.{HeldFits, SeveredFits, TextFits, CommonFits, ManifestFits, IsHeldSequence, IsSevered, IsTextMember, IsGrammatical}
use Rattle.suit_manifest.proofs.MapRows.{Ascend, value_among, says_among, absent_among, rows_known}
use Rattle.suit_manifest.proofs.ManifestValid.{common_ascends, manifest_ascends, common_valid}

-- ---- optional values

held_says : (shared : Bool) (count place : ℕ) (s : SequenceTree) → HeldFits s → IsHeldSequence shared count s
    → SaysHeld (SaysSequence shared count levels_allowed) place (inner_item s) (placed (first_code place s) s)
held_says shared count place s fits is =
    let content : List ℕ = spell (sequence_item s) in
    record { content = content; is = refl; holds = fits.1.says shared count (content_place place content) is }

held_under : (shared : Bool) (count n low place : ℕ) (rows : List Row) (o : Option SequenceTree) → Ascend low rows → value_among n rows ≡ held_item o → IfSome o HeldFits → IfSome o (IsHeldSequence shared count)
    → MaySayUnder n (SaysHeld (SaysSequence shared count levels_allowed)) (entries place (row_pairs rows)) (placed_held (place_among n place rows) o)
held_under shared count n low place rows None up is fits held = absent_among n low place rows up is
held_under shared count n low place rows (Some s) up is fits held =
    let at : ℕ = place_among n place rows in
    says_among (SaysHeld (SaysSequence shared count levels_allowed)) n place rows (inner_item s) (placed (first_code at s) s) is (held_says shared count at s fits held)

text_under : (n low place : ℕ) (rows : List Row) (o : Option (List ℕ)) → Ascend low rows → value_among n rows ≡ text_item o → MaySayUnder n SaysText (entries place (row_pairs rows)) o
text_under n low place rows None up is = absent_among n low place rows up is
text_under n low place rows (Some text) up is = says_among SaysText n place rows (TextString text) text is refl

digest_says : (place : ℕ) (digest : Digest) → IsDigestBytes digest → IsDigest place (digest_item digest) digest
digest_says place digest fits = record { is = refl; long = fits.0 }

severed_under : (count n low place : ℕ) (rows : List Row) (m : Member) → Ascend low rows → value_among n rows ≡ severed_item m → SeveredFits m → IsSevered count m
    → SeveredUnder n count (entries place (row_pairs rows)) (placed_severed (place_among n place rows) m)
severed_under count n low place rows members.Empty up is fits severed = absent_among n low place rows up is
severed_under count n low place rows (members.Here s) up is fits severed =
    let at : ℕ = place_among n place rows in
    says_among (SaysSevered count) n place rows (inner_item s) (members.Here (placed (first_code at s) s)) is (SaysHere (placed (first_code at s) s) (held_says false count at s fits severed))
severed_under count n low place rows (members.Apart digest) up is fits severed =
    says_among (SaysSevered count) n place rows (digest_item digest) (members.Apart digest) is (SaysApart digest (digest_says (place_among n place rows) digest fits))

text_member_under : (low place : ℕ) (rows : List Row) (t : TextMember) → Ascend low rows → value_among 23 rows ≡ text_member_item t → TextFits t → IsTextMember t
    → TextUnder (entries place (row_pairs rows)) t
text_member_under low place rows texts.Empty up is fits text = absent_among 23 low place rows up is
text_member_under low place rows (texts.Here content) up is fits text =
    says_among SaysTextMember 23 place rows (ByteString content) (texts.Here content) is
    (SaysTextHere text.0 (record { content = content; is = refl; holds = record { item = text.0; spells = text.1; says_so = refl } }))
text_member_under low place rows (texts.Apart digest) up is fits text =
    says_among SaysTextMember 23 place rows (digest_item digest) (texts.Apart digest) is (SaysTextApart digest (digest_says (place_among 23 place rows) digest fits))

-- ---- the common part

components_say : (place : ℕ) (m : Manifest) → IsGrammatical m → IsComponents place (ArrayOf (identifier_items m.components)) m.components
components_say place m is = record { is = refl; some = is.some; few = is.few; short = is.short; apart = is.apart }

abbrev common_placed : ℕ → Manifest → CommonSays
common_placed place m = record { components = m.components; shared = placed_held (place_under 4 place (common_rows m)) m.shared }

common_says : (place : ℕ) (m : Manifest) → CommonFits m → IsGrammatical m → IsCommon place (common_item m) (common_placed place m)
common_says place m fits is =
    let start : ℕ = pairs_place place (row_pairs (common_rows m)) in
    record {
      map = record { pairs = row_pairs (common_rows m); is = refl; known = rows_known common_keys start (common_rows m) (inl refl, (inr (inl refl), tt)); complete = (refl, tt) };
      components = says_among IsComponents 2 start (common_rows m) (ArrayOf (identifier_items m.components)) m.components refl (components_say (place_among 2 start (common_rows m)) m is);
      shared = held_under true (count_said m) 4 2 start (common_rows m) m.shared (common_ascends m) refl fits.shared is.shared;
    }

-- ---- the manifest

manifest_known : (m : Manifest) → AllByRecursion (λ r. Among r.0 manifest_keys) (manifest_rows m)
manifest_known m =
    (inl refl, (inr (inl refl), (inr (inr (inl refl)), (inr (inr (inr (inl refl))), (inr (inr (inr (inr (inl refl)))), (inr (inr (inr (inr (inr (inl refl))))), (inr (inr (inr (inr (inr (inr (inl refl)))))), (inr (inr (inr (inr (inr (inr (inr (inl refl))))))), (inr (inr (inr (inr (inr (inr (inr (inr (inl refl)))))))), (inr (inr (inr (inr (inr (inr (inr (inr (inr (inl refl))))))))), tt))))))))))

pub manifest_says : (place : ℕ) (m : Manifest) → ManifestFits m → IsGrammatical m → IsManifest place (manifest_item m) (placed_manifest place m)
manifest_says place m fits is =
    let start : ℕ = pairs_place place (row_pairs (manifest_rows m)) in
    let up : Ascend 1 (manifest_rows m) = manifest_ascends m in
    let inside : ℕ = content_place (value_place 3 place m) (spell (common_item m)) in
    let common : SaysHeld IsCommon (value_place 3 place m) (ByteString (spell (common_item m))) (common_placed inside m) =
    record { content = spell (common_item m); is = refl; holds = record { item = common_item m; spells = record { valid = common_valid m fits.common; is = refl }; says_so = common_says inside m fits.common is } } in
    record {
      map = record { pairs = row_pairs (manifest_rows m); is = refl; known = rows_known manifest_keys start (manifest_rows m) (manifest_known m); complete = (refl, (refl, (refl, tt))) };
      version = says_among IsVersion 1 start (manifest_rows m) (UnsignedInteger 1) 1 refl (record { is = refl; first = refl });
      sequence = says_among SaysNumber 2 start (manifest_rows m) (UnsignedInteger m.sequence) m.sequence refl refl;
      common = says_among (SaysHeld IsCommon) 3 start (manifest_rows m) (ByteString (spell (common_item m))) (common_placed inside m) refl common;
      reference = text_under 4 1 start (manifest_rows m) m.reference up refl;
      validate = held_under false (count_said m) 7 1 start (manifest_rows m) m.validate up refl fits.validate is.validate;
      load = held_under false (count_said m) 8 1 start (manifest_rows m) m.load up refl fits.load is.load;
      invoke = held_under false (count_said m) 9 1 start (manifest_rows m) m.invoke up refl fits.invoke is.invoke;
      payload_fetch = severed_under (count_said m) 16 1 start (manifest_rows m) m.payload_fetch up refl fits.payload_fetch is.payload_fetch;
      install = severed_under (count_said m) 20 1 start (manifest_rows m) m.install up refl fits.install is.install;
      text = text_member_under 1 start (manifest_rows m) m.text up refl fits.text is.text;
    }
