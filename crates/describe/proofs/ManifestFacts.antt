-- The values in a spelled manifest: numbers of 64 bits, bytes, digests of 32 bytes, and texts of one item.
use Rattle.std.proofs.Common.{◌≡◌, ℕ, ◌+◌, ◌<◌, ◌^◌, Bool, true, false, cond, List, [], ◌∷◌, length, take, drop, Option, Some, None, Ok, refl, subst, ◌∙◌, arith}
use Rattle.std.proofs.lemmas.List.{take_all, drop_all}
use Rattle.std.specs.List.{AllByRecursion}
use Rattle.det_cbor.specs.DataItem.{DataItem, MapOf, DataPairs, NoPairs, PairThen, spell, Spells, IsByte, IsValid, IsValidWithin, AreValidWithin, ArePairsWithin}
use Rattle.det_cbor.specs.ItemSkipping.{item_split}
use Rattle.det_cbor.specs.OneReading.{StartsWithItem}
use Rattle.suit_params.specs.declared.digest.Digest.{Digest}
use Rattle.suit_params.specs.DigestBytes.{IsDigestBytes}
use Rattle.suit_params.specs.Digests.{IsDigest}
use Rattle.suit_params.specs.Params.{pairs_place}
use Rattle.suit_envelope.specs.Envelopes.{Entry, entries, is_number}
use Rattle.suit_manifest.specs.declared.manifest.Manifest.{Manifest}
use Rattle.suit_manifest.specs.declared.manifest.Member.{Member}
use Rattle.suit_manifest.specs.declared.manifest.Member.TheVariants as members
use Rattle.suit_manifest.specs.declared.manifest.TextMember.{TextMember}
use Rattle.suit_manifest.specs.declared.manifest.TextMember.TheVariants as texts
use Rattle.suit_manifest.specs.Components.{string_items, identifier_items, IsShort}
use Rattle.suit_manifest.specs.Manifests.{IsManifest, SaysSevered, SaysHere, SaysApart, SaysTextMember, SaysTextHere, SaysTextApart, SeveredUnder, TextUnder}
use Rattle.suit_manifest.specs.Maps.{entry_under, entries_of}
use Rattle.author.specs.Members.{is_one_item}
use Rattle.describe.proofs.IdentifiersRead.{IsReadable}
use Rattle.describe.proofs.FieldsTaken.{IsTextItem}

-- ---- values under numbers are valid

first_or_later : (levels : ℕ) (first : Entry) (later : Option Entry) (e : Entry) (t : Bool) → IsValidWithin levels first.value → (later ≡ Some e → IsValidWithin levels e.value)
    → cond t (Some first) later ≡ Some e → IsValidWithin levels e.value
first_or_later levels first later e true valid others is = let same : first ≡ e = cc in subst (λ (x : Entry). IsValidWithin levels x.value) same valid
first_or_later levels first later e false valid others is = others is

entry_valid : (levels n place : ℕ) (before : Option (List ℕ)) (ps : DataPairs) (e : Entry) → ArePairsWithin levels before ps → entry_under n (entries place ps) ≡ Some e → IsValidWithin levels e.value
entry_valid levels n place before NoPairs e valid is = absurd cc
entry_valid levels n place before (PairThen key value ps) e valid is =
    let first : Entry = record { key = key; key_place = place; value = value; value_place = place + length (spell key) } in
    first_or_later levels first (entry_under n (entries (place + length (spell key) + length (spell value)) ps)) e (is_number n key) valid.2
    (entry_valid levels n (place + length (spell key) + length (spell value)) (Some (spell key)) ps e valid.3) is

pub value_valid : (n place : ℕ) (x : DataItem) (pairs : DataPairs) (e : Entry) → IsValid x → x ≡ MapOf pairs → entry_under n (entries_of place pairs) ≡ Some e → IsValidWithin 1 e.value
value_valid n place x pairs e valid is there = entry_valid 1 n (pairs_place place pairs) None pairs e (subst IsValid is valid).2 there

-- ---- single items

-- how an item is split off, where bytes begin with its spelling
abbrev pub Splits : Type 0
Splits = (bytes : List ℕ) (x : DataItem) (used : ℕ) → StartsWithItem bytes x used → item_split bytes ≡ Ok (take used bytes, drop used bytes)

pub one_item : Splits → (x : DataItem) (content : List ℕ) → Spells x content → is_one_item content ≡ true
one_item splits x content h =
    let whole : take (length content) content ≡ content = take_all (length content) content (omega arith) in
    let starts : StartsWithItem content x (length content) = record { spells = record { valid = h.valid; is = whole ∙ h.is }; within = omega arith } in
    rw (splits content x (length content) starts, drop_all (length content) content (omega arith)) refl

pub digest_fits : (levels place : ℕ) (x : DataItem) (digest : Digest) → IsValidWithin levels x → IsDigest place x digest → IsDigestBytes digest
digest_fits levels place x digest valid is = (is.long, (subst (IsValidWithin levels) is.is valid).2.1.0.1)

-- ---- components

parts_valid : (levels : ℕ) (parts : List (List ℕ)) → AreValidWithin levels (string_items parts) → AllByRecursion (AllByRecursion IsByte) parts
parts_valid levels [] h = tt
parts_valid levels (part ∷ parts) h = (h.0.1, parts_valid levels parts h.1)

components_valid : (levels : ℕ) (ids : List (List (List ℕ))) → AreValidWithin levels (identifier_items ids) → AllByRecursion IsShort ids → AllByRecursion IsReadable ids
components_valid levels [] h short = tt
components_valid levels (id ∷ ids) h short = ((short.0, parts_valid (levels + 1) id h.0.2), components_valid levels ids h.1 short.1)

-- ---- the fields

module _ (place : ℕ) (x : DataItem) (m : Manifest) (valid : IsValid x) (is : IsManifest place x m) where
  pub sequence_fits : m.sequence < 2 ^ 64
  sequence_fits = subst (IsValidWithin 1) is.sequence.says_so (value_valid 2 place x is.map.pairs is.sequence.entry valid is.map.is is.sequence.there)

  pub components_fit : AllByRecursion IsReadable m.components
  components_fit =
      let common = is.common.says_so.holds in
      let listed = common.says_so.components in
      let item = value_valid 2 _ common.item common.says_so.map.pairs listed.entry common.spells.valid common.says_so.map.is listed.there in
      components_valid 2 m.components (subst (IsValidWithin 1) listed.says_so.is item).2 listed.says_so.short

-- a digest that is stated
abbrev pub IsStated : Member → Type 0
IsStated members.Empty = Unit {0}
IsStated (members.Here s) = Unit {0}
IsStated (members.Apart digest) = IsDigestBytes digest

stated_by : (count place : ℕ) (x : DataItem) (m : Member) → IsValidWithin 1 x → SaysSevered count place x m → IsStated m
stated_by count place x m valid (SaysHere s h) = tt
stated_by count place x m valid (SaysApart bytes h) = digest_fits 1 place x bytes valid h

pub stated : (n count place at : ℕ) (x : DataItem) (pairs : DataPairs) (m : Member) → IsValid x → x ≡ MapOf pairs → SeveredUnder n count (entries_of place pairs) m → IsStated m
stated n count place at x pairs members.Empty valid is under = tt
stated n count place at x pairs (members.Here s) valid is under = tt
stated n count place at x pairs (members.Apart digest) valid is under =
    stated_by count under.entry.value_place under.entry.value (members.Apart digest) (value_valid n place x pairs under.entry valid is under.there) under.says_so

-- a text that is there
abbrev pub IsText : TextMember → Type 0
IsText texts.Empty = Unit {0}
IsText (texts.Here content) = IsTextItem content
IsText (texts.Apart digest) = IsDigestBytes digest

text_by : Splits → (place : ℕ) (x : DataItem) (m : TextMember) → IsValidWithin 1 x → SaysTextMember place x m → IsText m
text_by splits place x m valid (SaysTextHere said held) = ((subst (IsValidWithin 1) held.is valid).1, one_item splits held.holds.item held.content held.holds.spells)
text_by splits place x m valid (SaysTextApart digest h) = digest_fits 1 place x digest valid h

pub text_fits : Splits → (place : ℕ) (x : DataItem) (pairs : DataPairs) (m : TextMember) → IsValid x → x ≡ MapOf pairs → TextUnder (entries_of place pairs) m → IsText m
text_fits splits place x pairs texts.Empty valid is under = tt
text_fits splits place x pairs (texts.Here content) valid is under =
    text_by splits under.entry.value_place under.entry.value (texts.Here content) (value_valid 23 place x pairs under.entry valid is under.there) under.says_so
text_fits splits place x pairs (texts.Apart digest) valid is under =
    text_by splits under.entry.value_place under.entry.value (texts.Apart digest) (value_valid 23 place x pairs under.entry valid is under.there) under.says_so
