-- A block has only one layout.
use Rattle.std.proofs.Common.{◌≡◌, ℕ, List, [], ◌∷◌, ◌++◌, refl, sym, ap, subst, ◌∙◌, arith, lit<}
use Rattle.std.proofs.lemmas.List.{append-nil}
use Rattle.det_cbor.specs.declared.head.Head.{Head}
use Rattle.det_cbor.specs.declared.head.HeadKind.TheVariants as kinds
use Rattle.det_cbor.specs.Heads.{head_bytes}
use Rattle.det_cbor.specs.DataItem.{DataItem, ByteString, ArrayOf, MapOf, TaggedItem, NullItem, DataItems, NoItems, ItemThen, DataPairs, item_count, spell, spell_items, IsString, IsValid, IsValidWithin, AreValidWithin, Spells}
use Rattle.det_cbor.specs.ItemOrder.{spell_parts}
use Rattle.det_cbor.specs.OneReading.{IsItem}
use Rattle.det_cbor.specs.ArgumentLaws.{IsBytes, IsBytes-rest}
use Rattle.det_cbor.specs.LevelLaws.{valid_alone}
use Rattle.det_cbor.proofs.OneSpelling.{one_spelling}
use Rattle.hmac_mac0.specs.declared.mac_kind.MacKind.{MacKind}
use Rattle.hmac_mac0.specs.Mac0.{mac0_item, IsHeader, IsMac0}
use Rattle.hmac_mac0.specs.Layout.{StartsWithString, EndsWithTag, HasParts}
use Rattle.hmac_mac0.proofs.Headers.{content_bytes, one_kind}
use Rattle.det_cbor.specs.ItemHeads.{item_head, item_begins}
use Rattle.hmac_mac0.proofs.Layouts.{one_head, one_string}

abbrev pub front : List ℕ
front = 0xd1 ∷ 0x84 ∷ []

-- the unprotected header, null and the tag
abbrev tail_of : DataPairs → List ℕ → List ℕ
tail_of unprotected tag = spell (MapOf unprotected) ++ (spell NullItem ++ (spell (ByteString tag) ++ []))

front_is : (rest : List ℕ) → head_bytes 6 17 ++ (head_bytes 4 4 ++ rest) ≡ front ++ rest
unfolding head_bytes
front_is rest = refl

-- ---- the layout

pub parts_found : (block rest after protected tag : List ℕ) → block ≡ front ++ rest → StartsWithString rest protected after → EndsWithTag after tag → HasParts block protected tag
parts_found block rest after protected tag e s t =
    record {
      unprotected = t.unprotected;
      map = t.map;
      short_header = s.short;
      short_tag = t.short;
      parts = e ∙ ap (λ r. front ++ r) (s.parts ∙ ap (λ r. spell (ByteString protected) ++ r) t.parts) ∙ sym (front_is (spell (ByteString protected) ++ tail_of t.unprotected tag));
    }

pub parts_front : (block protected tag : List ℕ) (h : HasParts block protected tag) → block ≡ front ++ (spell (ByteString protected) ++ tail_of h.unprotected tag)
parts_front block protected tag h = h.parts ∙ front_is (spell (ByteString protected) ++ tail_of h.unprotected tag)

same_rest : (a b : List ℕ) → front ++ a ≡ front ++ b → a ≡ b
same_rest a b e = cc

pub parts_string : (block rest protected tag : List ℕ) (h : HasParts block protected tag) → block ≡ front ++ rest → StartsWithString rest protected (tail_of h.unprotected tag)
parts_string block rest protected tag h e = record { short = h.short_header; parts = same_rest rest _ (sym e ∙ parts_front block protected tag h) }

pub parts_tag : (block rest protected tag found after : List ℕ) → HasParts block protected tag → block ≡ front ++ rest → StartsWithString rest found after → EndsWithTag after tag
parts_tag block rest protected tag found after h e s =
    record { unprotected = h.unprotected; map = h.map; short = h.short_tag; parts = (one_string rest found protected after _ s (parts_string block rest protected tag h e)).1 }

pub one_header : (block p q s t : List ℕ) → HasParts block p s → HasParts block q t → p ≡ q
one_header block p q s t a b =
    let rest = spell (ByteString p) ++ tail_of a.unprotected s in
    (one_string rest p q _ _ (parts_string block rest p s a (parts_front block p s a)) (parts_string block rest q t b (parts_front block p s a))).0

-- ---- levels: the map of a whole item is valid in the array in the tag

record InTag (rest : List ℕ) : Type 0 where
  inner : DataItem
  valid : IsValidWithin 1 inner
  parts : rest ≡ spell inner

in_tag : (x : DataItem) (number : ℕ) (rest : List ℕ) → IsValid x → item_head x ≡ record { kind = kinds.Tag; value = number } → spell_parts x ++ [] ≡ rest → InTag rest
in_tag (TaggedItem tag inner) number rest v h e = record { inner = inner; valid = v.2; parts = sym e ∙ append-nil (spell inner) }
in_tag _ number rest v h e = let k = ap (λ (g : Head). g.kind) h in absurd cc

record InArray (count : ℕ) (rest : List ℕ) : Type 0 where
  items : DataItems
  valid : AreValidWithin 2 items
  size : item_count items ≡ count
  parts : rest ≡ spell_items items

in_array : (x : DataItem) (count : ℕ) (rest : List ℕ) → IsValidWithin 1 x → item_head x ≡ record { kind = kinds.Array; value = count } → spell_parts x ++ [] ≡ rest → InArray count rest
in_array (ArrayOf xs) count rest v h e = record { items = xs; valid = v.2; size = ap (λ (g : Head). g.value) h; parts = sym e ∙ append-nil (spell_items xs) }
in_array _ count rest v h e = let k = ap (λ (g : Head). g.kind) h in absurd cc

-- the items of a block's array
items_of_block : (block rest : List ℕ) → IsItem block → block ≡ front ++ rest → InArray 4 rest
items_of_block block rest x e =
    let outer = one_head block _ (record { kind = kinds.Tag; value = 17 }) _ (head_bytes 4 4 ++ rest)
    (item_begins 0 x.0 block [] x.1.valid (x.1.is ∙ sym (append-nil (spell x.0)))) (record { value = lit< tt; parts = e ∙ sym (front_is rest) }) in
    let tagged = in_tag x.0 17 (head_bytes 4 4 ++ rest) x.1.valid outer.0 outer.1 in
    let inner = one_head (head_bytes 4 4 ++ rest) _ (record { kind = kinds.Array; value = 4 }) _ rest
    (item_begins 1 tagged.inner (head_bytes 4 4 ++ rest) [] tagged.valid (tagged.parts ∙ sym (append-nil (spell tagged.inner)))) (record { value = lit< tt; parts = refl }) in
    in_array tagged.inner 4 rest tagged.valid inner.0 inner.1

second_valid : (xs : DataItems) (first second : DataItem) (rest : List ℕ) → AreValidWithin 2 xs → item_count xs ≡ 4 → IsValid first → IsValid second
    → spell_items xs ≡ spell first ++ (spell second ++ rest) → IsValidWithin 2 second
second_valid NoItems first second rest v n f s e = absurd (omega (arith, n))
second_valid (ItemThen a NoItems) first second rest v n f s e = absurd (omega (arith, n))
second_valid (ItemThen a (ItemThen b xs)) first second rest v n f s e =
    let after = (one_spelling 2 0 a first (spell b ++ spell_items xs) (spell second ++ rest) v.0 f e).1 in
    let same = (one_spelling 2 0 b second (spell_items xs) rest v.1.0 s after).0 in
    subst (IsValidWithin 2) same v.1.0

-- an item that is laid out as a block is the item of a block
pub parts_spell : (block protected tag : List ℕ) → IsBytes block → IsItem block → (h : HasParts block protected tag) → Spells (mac0_item protected h.unprotected tag) block
parts_spell block protected tag fits x h =
    let rest = spell (ByteString protected) ++ tail_of h.unprotected tag in
    let at = parts_front block protected tag h in
    let bytes : IsBytes rest = IsBytes-rest front rest (subst IsBytes at fits) in
    let tail_bytes : IsBytes (spell (ByteString tag) ++ []) =
    IsBytes-rest (spell NullItem) _ (IsBytes-rest (spell (MapOf h.unprotected)) _ (IsBytes-rest (spell (ByteString protected)) (tail_of h.unprotected tag) bytes)) in
    let header : IsString protected = (h.short_header, content_bytes rest protected (tail_of h.unprotected tag) bytes refl) in
    let last : IsString tag = (h.short_tag, content_bytes (spell (ByteString tag) ++ []) tag [] tail_bytes refl) in
    let array = items_of_block block rest x at in
    let map = second_valid array.items (ByteString protected) (MapOf h.unprotected) (spell NullItem ++ (spell (ByteString tag) ++ [])) array.valid array.size header h.map (sym array.parts) in
    record { valid = (lit< tt, lit< tt, (lit< tt, lit< tt, (header, (map, (tt, (last, tt)))))); is = h.parts }

pub parts_mac0 : (block : List ℕ) (kind : MacKind) (protected tag : List ℕ) → IsBytes block → IsItem block → HasParts block protected tag → IsHeader kind protected → IsMac0 block kind protected tag
parts_mac0 block kind protected tag fits x h header = record { header = header; unprotected = h.unprotected; spells = parts_spell block protected tag fits x h }

pub mac0_parts : (block : List ℕ) (kind : MacKind) (protected tag : List ℕ) → IsMac0 block kind protected tag → HasParts block protected tag
mac0_parts block kind protected tag m =
    let v = m.spells.valid.2.2 in
    record { unprotected = m.unprotected; map = valid_alone 2 (MapOf m.unprotected) v.1.0; short_header = v.0.0; short_tag = v.1.1.1.0.0; parts = m.spells.is }

pub mac0_item_is : (block : List ℕ) (kind : MacKind) (protected tag : List ℕ) → IsMac0 block kind protected tag → IsItem block
mac0_item_is block kind protected tag m = (mac0_item protected m.unprotected tag, m.spells)

-- ---- the law

-- a block has one algorithm, one protected header and one tag
pub record SameParts (j k : MacKind) (p q s t : List ℕ) : Type 0 where
  pub kind : j ≡ k
  pub protected : p ≡ q
  pub tag : s ≡ t

pub one_mac0 : (block : List ℕ) (j k : MacKind) (p q s t : List ℕ) → IsMac0 block j p s → IsMac0 block k q t → SameParts j k p q s t
one_mac0 block j k p q s t a b =
    let same = (one_spelling 0 0 (mac0_item p a.unprotected s) (mac0_item q b.unprotected t) [] [] a.spells.valid b.spells.valid (ap (λ x. x ++ []) (sym a.spells.is ∙ b.spells.is))).0 in
    let header : p ≡ q = cc in
    record { kind = one_kind j k q (subst (IsHeader j) header a.header) b.header; protected = header; tag = cc }
