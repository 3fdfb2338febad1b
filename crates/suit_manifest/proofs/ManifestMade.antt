-- An item that says a manifest is the one that the manifest is written as, and the manifest's places are
-- those in its spelling.
use Rattle.std.proofs.Common.{◌≡◌, ℕ, Bool, true, false, List, [], ◌∷◌, Option, Some, None, refl, sym, ap, subst, ◌∙◌, arith}
use Rattle.std.specs.Prelude.{option_map}
use Rattle.det_cbor.specs.DataItem.{DataItem, UnsignedInteger, ByteString, TextString, MapOf, ArrayOf, DataPairs, spell, IsValid}
use Rattle.suit_params.specs.declared.digest.Digest.{Digest}
use Rattle.suit_params.specs.Refusing.{Says, SaysHeld, SaysWhole, content_place}
use Rattle.suit_params.specs.Params.{pairs_place}
use Rattle.suit_params.specs.Digests.{digest_item}
use Rattle.suit_commands.specs.SequenceLaws.{SequenceLaws}
use Rattle.suit_commands.specs.SequenceMaking.{step_items, inner_item, placed, unplaced, first_code}
use Rattle.suit_commands.specs.Sequences.{SaysSequence, elements_place}
use Rattle.suit_commands.specs.Tree.{SequenceTree}
use Rattle.suit_envelope.specs.Envelopes.{Entry, entries}
use Rattle.suit_manifest.specs.declared.manifest.Manifest.{Manifest}
use Rattle.suit_manifest.specs.declared.manifest.Member.{Member}
use Rattle.suit_manifest.specs.declared.manifest.Member.TheVariants as members
use Rattle.suit_manifest.specs.declared.manifest.TextMember.{TextMember}
use Rattle.suit_manifest.specs.declared.manifest.TextMember.TheVariants as texts
use Rattle.suit_manifest.specs.Common.{IsCommon, common_keys}
use Rattle.suit_manifest.specs.Components.{identifier_items}
use Rattle.suit_manifest.specs.ManifestMaking.{Row, row_pairs, place_among, place_under, text_item, held_item, severed_item, text_member_item, common_rows, common_item, manifest_rows, manifest_item, placed_held, placed_severed, value_place, shared_place, placed_manifest, unplaced_held, unplaced_severed, unplaced_manifest}
use Rattle.suit_manifest.specs.Manifests.{IsManifest, SaysText, SaysSevered, SaysHere, SaysApart, SaysTextMember, SaysTextHere, SaysTextApart, SeveredUnder, TextUnder, manifest_keys, common_said, count_said}
use Rattle.suit_manifest.specs.Maps.{entry_under, SaysUnder, MaySayUnder}
use Rattle.suit_manifest.proofs.KeyNumbers.{ordered}
use Rattle.suit_manifest.proofs.MapRows.{value_among, says_among}
use Rattle.suit_manifest.proofs.RowsAgain.{value_in, pairs_are, keyed, value_is}

-- ---- the values under the numbers of a manifest

found : (n place : ℕ) (ps : DataPairs) (e : Entry) (x : DataItem) → entry_under n (entries place ps) ≡ Some e → e.value ≡ x → value_in n ps ≡ Some x
found n place ps e x there is = value_is n place ps ∙ ap (option_map (λ (f : Entry). f.value)) there ∙ ap Some is

absent : (n place : ℕ) (ps : DataPairs) → entry_under n (entries place ps) ≡ None → value_in n ps ≡ None
absent n place ps none = value_is n place ps ∙ ap (option_map (λ (f : Entry). f.value)) none

module _ (laws : SequenceLaws) where
  string_made : (shared : Bool) (count place : ℕ) (x : DataItem) (s : SequenceTree) → SaysHeld (SaysSequence shared count 8) place x s → x ≡ inner_item s
  string_made shared count place x s said = said.is ∙ ap ByteString (laws.again shared count 8 (content_place place said.content) said.content s said.holds)

  held_made : (shared : Bool) (count n place : ℕ) (ps : DataPairs) (o : Option SequenceTree) → MaySayUnder n (SaysHeld (SaysSequence shared count 8)) (entries place ps) o → value_in n ps ≡ held_item o
  held_made shared count n place ps None said = absent n place ps said
  held_made shared count n place ps (Some s) said = found n place ps said.entry (inner_item s) said.there (string_made shared count said.entry.value_place said.entry.value s said.says_so)

  text_made : (n place : ℕ) (ps : DataPairs) (o : Option (List ℕ)) → MaySayUnder n SaysText (entries place ps) o → value_in n ps ≡ text_item o
  text_made n place ps None said = absent n place ps said
  text_made n place ps (Some text) said = found n place ps said.entry (TextString text) said.there said.says_so

  here_made : (count place : ℕ) (x : DataItem) (s : SequenceTree) → SaysSevered count place x (members.Here s) → x ≡ inner_item s
  here_made count place x s (SaysHere t held) = string_made false count place x t held

  apart_made : (count place : ℕ) (x : DataItem) (m : Member) (digest : Digest) → SaysSevered count place x m → m ≡ members.Apart digest → x ≡ digest_item digest
  apart_made count place x m bytes (SaysHere t held) is = absurd cc
  apart_made count place x m digest (SaysApart said so) is = so.is ∙ ap digest_item (let same : said ≡ digest = cc in same)

  severed_made : (count n place : ℕ) (ps : DataPairs) (m : Member) → SeveredUnder n count (entries place ps) m → value_in n ps ≡ severed_item m
  severed_made count n place ps members.Empty said = absent n place ps said
  severed_made count n place ps (members.Here s) said = found n place ps said.entry (inner_item s) said.there (here_made count said.entry.value_place said.entry.value s said.says_so)
  severed_made count n place ps (members.Apart digest) said =
      found n place ps said.entry (digest_item digest) said.there (apart_made count said.entry.value_place said.entry.value (members.Apart digest) digest said.says_so refl)

  text_here_made : (place : ℕ) (x : DataItem) (t : TextMember) (content : List ℕ) → SaysTextMember place x t → t ≡ texts.Here content → x ≡ ByteString content
  text_here_made place x t content (SaysTextHere y held) is = held.is ∙ ap ByteString cc
  text_here_made place x t content (SaysTextApart digest so) is = absurd cc

  text_apart_made : (place : ℕ) (x : DataItem) (t : TextMember) (digest : Digest) → SaysTextMember place x t → t ≡ texts.Apart digest → x ≡ digest_item digest
  text_apart_made place x t bytes (SaysTextHere y held) is = absurd cc
  text_apart_made place x t digest (SaysTextApart said so) is = so.is ∙ ap digest_item (let same : said ≡ digest = cc in same)

  text_member_made : (place : ℕ) (ps : DataPairs) (t : TextMember) → TextUnder (entries place ps) t → value_in 23 ps ≡ text_member_item t
  text_member_made place ps texts.Empty said = absent 23 place ps said
  text_member_made place ps (texts.Here content) said = found 23 place ps said.entry (ByteString content) said.there (text_here_made said.entry.value_place said.entry.value (texts.Here content) content said.says_so refl)
  text_member_made place ps (texts.Apart digest) said =
      found 23 place ps said.entry (digest_item digest) said.there (text_apart_made said.entry.value_place said.entry.value (texts.Apart digest) digest said.says_so refl)

  -- ---- the item

  common_pairs : (place : ℕ) (x : DataItem) (m : Manifest) → IsValid x → (so : IsCommon place x (common_said m)) → so.map.pairs ≡ row_pairs (common_rows m)
  common_pairs place x m valid so =
      let ps = so.map.pairs in
      let start = pairs_place place ps in
      let up = ordered place ps (subst IsValid so.map.is valid) in
      let are = pairs_are common_keys 0 ps (omega arith, (omega arith, tt)) (keyed common_keys 0 start ps (omega arith, (omega arith, tt)) so.map.known up) in
      let two = found 2 start ps so.components.entry (ArrayOf (identifier_items m.components)) so.components.there so.components.says_so.is in
      let four = held_made true (count_said m) 4 start ps m.shared so.shared in
      are ∙ (λ i. row_pairs ((2, two i) ∷ (4, four i) ∷ []))

  common_made : (place : ℕ) (x : DataItem) (m : Manifest) → IsValid x → IsCommon place x (common_said m) → x ≡ common_item m
  common_made place x m valid so = so.map.is ∙ ap MapOf (common_pairs place x m valid so)

  common_string : (place : ℕ) (x : DataItem) (m : Manifest) (held : SaysHeld IsCommon place x (common_said m)) → held.content ≡ spell (common_item m)
  common_string place x m held = held.holds.spells.is ∙ ap spell (common_made (content_place place held.content) held.holds.item m held.holds.spells.valid held.holds.says_so)

  manifest_pairs : (place : ℕ) (x : DataItem) (m : Manifest) → IsValid x → (so : IsManifest place x m) → so.map.pairs ≡ row_pairs (manifest_rows m)
  manifest_pairs place x m valid so =
      let ps = so.map.pairs in
      let start = pairs_place place ps in
      let up = ordered place ps (subst IsValid so.map.is valid) in
      let are = pairs_are manifest_keys 0 ps (omega arith, (omega arith, (omega arith, (omega arith, (omega arith, (omega arith, (omega arith, (omega arith, (omega arith, (omega arith, tt))))))))))
      (keyed manifest_keys 0 start ps (omega arith, (omega arith, (omega arith, (omega arith, (omega arith, (omega arith, (omega arith, (omega arith, (omega arith, (omega arith, tt)))))))))) so.map.known up) in
      let one = found 1 start ps so.version.entry (UnsignedInteger 1) so.version.there so.version.says_so.is in
      let two = found 2 start ps so.sequence.entry (UnsignedInteger m.sequence) so.sequence.there so.sequence.says_so in
      let held = so.common.says_so in
      let three = found 3 start ps so.common.entry (ByteString (spell (common_item m))) so.common.there (held.is ∙ ap ByteString (common_string so.common.entry.value_place so.common.entry.value m held)) in
      let four = text_made 4 start ps m.reference so.reference in
      let seven = held_made false (count_said m) 7 start ps m.validate so.validate in
      let eight = held_made false (count_said m) 8 start ps m.load so.load in
      let nine = held_made false (count_said m) 9 start ps m.invoke so.invoke in
      let sixteen = severed_made (count_said m) 16 start ps m.payload_fetch so.payload_fetch in
      let twenty = severed_made (count_said m) 20 start ps m.install so.install in
      let last = text_member_made start ps m.text so.text in
      are
      ∙ (λ i. row_pairs ((1, one i) ∷ (2, two i) ∷ (3, three i) ∷ (4, four i) ∷ (7, seven i) ∷ (8, eight i) ∷ (9, nine i) ∷ (16, sixteen i) ∷ (20, twenty i) ∷ (23, last i) ∷ []))

  pub manifest_made : (place : ℕ) (x : DataItem) (m : Manifest) → IsValid x → IsManifest place x m → x ≡ manifest_item m
  manifest_made place x m valid so = so.map.is ∙ ap MapOf (manifest_pairs place x m valid so)

  pub made_again : (place : ℕ) (bytes : List ℕ) (m : Manifest) → SaysWhole IsManifest place bytes m → bytes ≡ spell (manifest_item m)
  made_again place bytes m so = so.spells.is ∙ ap spell (manifest_made place so.item m so.spells.valid so.says_so)

  -- ---- places

  abbrev AtRow : ℕ → ℕ → List Row → Says (Unit {0})
  AtRow n place rows at x said = at ≡ place_among n place rows

  -- an entry's value is where its row has it
  row_place : (n place : ℕ) (rows : List Row) (x : DataItem) (e : Entry) → value_among n rows ≡ Some x → entry_under n (entries place (row_pairs rows)) ≡ Some e → e.value_place ≡ place_among n place rows
  row_place n place rows x e value there =
      let other : SaysUnder n (AtRow n place rows) (entries place (row_pairs rows)) tt = says_among (AtRow n place rows) n place rows x tt value refl in
      let same : e ≡ other.entry = some_same (sym there ∙ other.there) in
      ap (λ (f : Entry). f.value_place) same ∙ other.says_so
    where
      some_same : {a b : Entry} → ◌≡◌ {A = Option Entry} (Some a) (Some b) → a ≡ b
      some_same e = cc

  sequence_placed : (shared : Bool) (count place : ℕ) (x : DataItem) (s : SequenceTree) → SaysHeld (SaysSequence shared count 8) place x s → s ≡ placed (first_code place s) s
  sequence_placed shared count place x s said =
      laws.places shared count 8 (content_place place said.content) said.holds.item s said.holds.says_so
      ∙ ap (λ (c : List ℕ). placed (elements_place (content_place place c) (step_items s)) s) (laws.again shared count 8 (content_place place said.content) said.content s said.holds)

  held_placed : (shared : Bool) (count n place : ℕ) (rows : List Row) (o : Option SequenceTree) → value_among n rows ≡ held_item o → MaySayUnder n (SaysHeld (SaysSequence shared count 8)) (entries place (row_pairs rows)) o
      → o ≡ placed_held (place_among n place rows) o
  held_placed shared count n place rows None value said = refl
  held_placed shared count n place rows (Some s) value said =
      ap Some (sequence_placed shared count said.entry.value_place said.entry.value s said.says_so
      ∙ ap (λ (p : ℕ). placed (first_code p s) s) (row_place n place rows (inner_item s) said.entry value said.there))

  here_placed : (count place : ℕ) (x : DataItem) (m : Member) (s : SequenceTree) → SaysSevered count place x m → m ≡ members.Here s → s ≡ placed (first_code place s) s
  here_placed count place x m s (SaysHere t held) is = let same : t ≡ s = cc in subst (λ (u : SequenceTree). u ≡ placed (first_code place u) u) same (sequence_placed false count place x t held)
  here_placed count place x m s (SaysApart digest so) is = absurd cc

  severed_placed : (count n place : ℕ) (rows : List Row) (m : Member) → value_among n rows ≡ severed_item m → SeveredUnder n count (entries place (row_pairs rows)) m → m ≡ placed_severed (place_among n place rows) m
  severed_placed count n place rows members.Empty value said = refl
  severed_placed count n place rows (members.Here s) value said =
      ap members.Here (here_placed count said.entry.value_place said.entry.value (members.Here s) s said.says_so refl
      ∙ ap (λ (p : ℕ). placed (first_code p s) s) (row_place n place rows (inner_item s) said.entry value said.there))
  severed_placed count n place rows (members.Apart digest) value said = refl

  shared_placed : (place : ℕ) (x : DataItem) (m : Manifest) → IsValid x → IsCommon place x (common_said m) → m.shared ≡ placed_held (place_under 4 place (common_rows m)) m.shared
  shared_placed place x m valid so =
      let said = subst (λ (ps : DataPairs). MaySayUnder 4 (SaysHeld (SaysSequence true (count_said m) 8)) (entries (pairs_place place ps) ps) m.shared) (common_pairs place x m valid so) so.shared in
      held_placed true (count_said m) 4 (pairs_place place (row_pairs (common_rows m))) (common_rows m) m.shared refl said

  pub manifest_placed : (place : ℕ) (x : DataItem) (m : Manifest) → IsValid x → IsManifest place x m → m ≡ placed_manifest place m
  manifest_placed place x m valid so =
      let rows = manifest_rows m in
      let start = pairs_place place (row_pairs rows) in
      let are = manifest_pairs place x m valid so in
      let count = count_said m in
      let may : (n : ℕ) (o : Option SequenceTree) → MaySayUnder n (SaysHeld (SaysSequence false count 8)) (entries (pairs_place place so.map.pairs) so.map.pairs) o → MaySayUnder n (SaysHeld (SaysSequence false count 8)) (entries start (row_pairs rows)) o =
      λ n o. subst (λ (ps : DataPairs). MaySayUnder n (SaysHeld (SaysSequence false count 8)) (entries (pairs_place place ps) ps) o) are in
      let severed : (n : ℕ) (o : Member) → SeveredUnder n count (entries (pairs_place place so.map.pairs) so.map.pairs) o → SeveredUnder n count (entries start (row_pairs rows)) o =
      λ n o. subst (λ (ps : DataPairs). SeveredUnder n count (entries (pairs_place place ps) ps) o) are in
      let common = subst (λ (ps : DataPairs). SaysUnder 3 (SaysHeld IsCommon) (entries (pairs_place place ps) ps) (common_said m)) are so.common in
      let held = common.says_so in
      let at : common.entry.value_place ≡ value_place 3 place m = row_place 3 start rows (ByteString (spell (common_item m))) common.entry refl common.there in
      let content = common_string common.entry.value_place common.entry.value m held in
      let shared : m.shared ≡ placed_held (shared_place place m) m.shared =
      shared_placed (content_place common.entry.value_place held.content) held.holds.item m held.holds.spells.valid held.holds.says_so
      ∙ ap (λ (c : List ℕ). placed_held (place_under 4 (content_place common.entry.value_place c) (common_rows m)) m.shared) content
      ∙ ap (λ (p : ℕ). placed_held (place_under 4 (content_place p (spell (common_item m))) (common_rows m)) m.shared) at in
      let validate = held_placed false count 7 start rows m.validate refl (may 7 m.validate so.validate) in
      let load = held_placed false count 8 start rows m.load refl (may 8 m.load so.load) in
      let invoke = held_placed false count 9 start rows m.invoke refl (may 9 m.invoke so.invoke) in
      let payload_fetch = severed_placed count 16 start rows m.payload_fetch refl (severed 16 m.payload_fetch so.payload_fetch) in
      let install = severed_placed count 20 start rows m.install refl (severed 20 m.install so.install) in
      λ i. record m {
        shared = shared i;
        validate = validate i;
        load = load i;
        invoke = invoke i;
        payload_fetch = payload_fetch i;
        install = install i;
      }

  -- ---- manifests that differ only in their places

  held_alike : (a b : Option SequenceTree) → unplaced_held a ≡ unplaced_held b → held_item a ≡ held_item b
  held_alike None None e = refl
  held_alike None (Some t) e = absurd cc
  held_alike (Some s) None e = absurd cc
  held_alike (Some s) (Some t) e = let same : unplaced s ≡ unplaced t = cc in ap (λ (x : DataItem). Some (ByteString (spell x))) (laws.one_item s t same)

  severed_alike : (a b : Member) → unplaced_severed a ≡ unplaced_severed b → severed_item a ≡ severed_item b
  severed_alike members.Empty members.Empty e = refl
  severed_alike members.Empty (members.Here t) e = absurd cc
  severed_alike members.Empty (members.Apart d) e = absurd cc
  severed_alike (members.Here s) members.Empty e = absurd cc
  severed_alike (members.Here s) (members.Here t) e = let same : unplaced s ≡ unplaced t = cc in ap (λ (x : DataItem). Some (ByteString (spell x))) (laws.one_item s t same)
  severed_alike (members.Here s) (members.Apart d) e = absurd cc
  severed_alike (members.Apart d) members.Empty e = absurd cc
  severed_alike (members.Apart d) (members.Here t) e = absurd cc
  severed_alike (members.Apart c) (members.Apart d) e = ap severed_item e

  pub one_item : (m n : Manifest) → unplaced_manifest m ≡ unplaced_manifest n → manifest_item m ≡ manifest_item n
  one_item m n e =
      let sequence : m.sequence ≡ n.sequence = ap (λ (k : Manifest). k.sequence) e in
      let components : m.components ≡ n.components = ap (λ (k : Manifest). k.components) e in
      let shared = held_alike m.shared n.shared (ap (λ (k : Manifest). k.shared) e) in
      let reference : m.reference ≡ n.reference = ap (λ (k : Manifest). k.reference) e in
      let validate = held_alike m.validate n.validate (ap (λ (k : Manifest). k.validate) e) in
      let load = held_alike m.load n.load (ap (λ (k : Manifest). k.load) e) in
      let invoke = held_alike m.invoke n.invoke (ap (λ (k : Manifest). k.invoke) e) in
      let payload_fetch = severed_alike m.payload_fetch n.payload_fetch (ap (λ (k : Manifest). k.payload_fetch) e) in
      let install = severed_alike m.install n.install (ap (λ (k : Manifest). k.install) e) in
      let text : m.text ≡ n.text = ap (λ (k : Manifest). k.text) e in
      λ i. MapOf (row_pairs (
      (1, Some (UnsignedInteger 1))
      ∷ (2, Some (UnsignedInteger (sequence i)))
      ∷ (3, Some (ByteString (spell (MapOf (row_pairs ((2, Some (ArrayOf (identifier_items (components i)))) ∷ (4, shared i) ∷ []))))))
      ∷ (4, text_item (reference i))
      ∷ (7, validate i)
      ∷ (8, load i)
      ∷ (9, invoke i)
      ∷ (16, payload_fetch i)
      ∷ (20, install i)
      ∷ (23, text_member_item (text i))
      ∷ []
      ))
