-- The item that a manifest is written as, and the places of its sequences (draft-ietf-suit-manifest-25,
-- section 8.4).
use Rattle.std.specs.Prelude.{ℕ, ◌+◌, ◌==◌, if◌then◌else◌, List, [], ◌∷◌, length, Option, Some, None}
use Rattle.det_cbor.specs.DataItem.{DataItem, UnsignedInteger, ByteString, TextString, ArrayOf, MapOf, DataPairs, NoPairs, PairThen, spell}
use Rattle.suit_params.specs.Refusing.{content_place}
use Rattle.suit_params.specs.Params.{pairs_place}
use Rattle.suit_params.specs.Digests.{digest_item}
use Rattle.suit_commands.specs.Tree.{SequenceTree}
use Rattle.suit_commands.specs.SequenceMaking.{inner_item, first_code, placed, unplaced}
use Rattle.suit_manifest.specs.declared.manifest.Manifest.{Manifest}
use Rattle.suit_manifest.specs.declared.manifest.Member.{Member}
use Rattle.suit_manifest.specs.declared.manifest.Member.TheVariants as members
use Rattle.suit_manifest.specs.declared.manifest.TextMember.{TextMember}
use Rattle.suit_manifest.specs.declared.manifest.TextMember.TheVariants as texts
use Rattle.suit_manifest.specs.Components.{identifier_items}

-- ---- maps as rows

-- a number, and the value under it, if there is one
abbrev pub Row : Type 0
Row = ℕ × Option DataItem

abbrev pub pair_then : ℕ → Option DataItem → DataPairs → DataPairs
pair_then key None ps = ps
pair_then key (Some value) ps = PairThen (UnsignedInteger key) value ps

-- the pairs of those rows that have a value
abbrev pub row_pairs : List Row → DataPairs
row_pairs [] = NoPairs
row_pairs (r ∷ rs) = pair_then r.0 r.1 (row_pairs rs)

-- how many pairs a row has
abbrev pub pairs_of : Option DataItem → ℕ
pairs_of None = 0
pairs_of (Some value) = 1

-- the place of the next key
abbrev pub after_row : ℕ → ℕ → Option DataItem → ℕ
after_row place key None = place
after_row place key (Some value) =
    place + length (spell (UnsignedInteger key)) + length (spell value)

-- the place of the value under number n, where the first key has this place
abbrev pub place_among : ℕ → ℕ → List Row → ℕ
place_among n place [] = place
place_among n place (r ∷ rs) =
    if r.0 == n then place + length (spell (UnsignedInteger r.0))
    else place_among n (after_row place r.0 r.1) rs

-- the same, where the map has this place
abbrev pub place_under : ℕ → ℕ → List Row → ℕ
place_under n place rows = place_among n (pairs_place place (row_pairs rows)) rows

-- ---- values

abbrev pub text_item : Option (List ℕ) → Option DataItem
text_item None = None
text_item (Some text) = Some (TextString text)

abbrev pub held_item : Option SequenceTree → Option DataItem
held_item None = None
held_item (Some s) = Some (inner_item s)

abbrev pub severed_item : Member → Option DataItem
severed_item members.Empty = None
severed_item (members.Here s) = Some (inner_item s)
severed_item (members.Apart digest) = Some (digest_item digest)

abbrev pub text_member_item : TextMember → Option DataItem
text_member_item texts.Empty = None
text_member_item (texts.Here content) = Some (ByteString content)
text_member_item (texts.Apart digest) = Some (digest_item digest)

-- ---- the manifest; its common part is an item of its own in a byte string

abbrev pub common_rows : Manifest → List Row
common_rows m = (2, Some (ArrayOf (identifier_items m.components))) ∷ (4, held_item m.shared) ∷ []

abbrev pub common_item : Manifest → DataItem
common_item m = MapOf (row_pairs (common_rows m))

-- the rows of a manifest, with its keys in ascending order
abbrev pub manifest_rows : Manifest → List Row
manifest_rows m =
    (1, Some (UnsignedInteger 1))
    ∷ (2, Some (UnsignedInteger m.sequence))
    ∷ (3, Some (ByteString (spell (common_item m))))
    ∷ (4, text_item m.reference)
    ∷ (7, held_item m.validate)
    ∷ (8, held_item m.load)
    ∷ (9, held_item m.invoke)
    ∷ (16, severed_item m.payload_fetch)
    ∷ (20, severed_item m.install)
    ∷ (23, text_member_item m.text)
    ∷ []

-- the three pairs that every manifest has, followed by others
abbrev pub start_pairs : Manifest → DataPairs → DataPairs
start_pairs m others =
    PairThen (UnsignedInteger 1) (UnsignedInteger 1)
    (PairThen (UnsignedInteger 2) (UnsignedInteger m.sequence)
    (PairThen (UnsignedInteger 3) (ByteString (spell (common_item m)))
    others))

abbrev pub manifest_item : Manifest → DataItem
manifest_item m = MapOf (row_pairs (manifest_rows m))

-- ---- places, for a manifest or for the byte string of a sequence at a given place

abbrev pub placed_held : ℕ → Option SequenceTree → Option SequenceTree
placed_held place None = None
placed_held place (Some s) = Some (placed (first_code place s) s)

abbrev pub placed_severed : ℕ → Member → Member
placed_severed place members.Empty = members.Empty
placed_severed place (members.Here s) = members.Here (placed (first_code place s) s)
placed_severed place (members.Apart digest) = members.Apart digest

abbrev pub value_place : ℕ → ℕ → Manifest → ℕ
value_place n place m = place_under n place (manifest_rows m)

abbrev pub shared_place : ℕ → Manifest → ℕ
shared_place place m =
    place_under 4 (content_place (value_place 3 place m) (spell (common_item m))) (common_rows m)

-- the same manifest with the places of its spelling
abbrev pub placed_manifest : ℕ → Manifest → Manifest
placed_manifest place m =
    record m {
      shared = placed_held (shared_place place m) m.shared;
      validate = placed_held (value_place 7 place m) m.validate;
      load = placed_held (value_place 8 place m) m.load;
      invoke = placed_held (value_place 9 place m) m.invoke;
      payload_fetch = placed_severed (value_place 16 place m) m.payload_fetch;
      install = placed_severed (value_place 20 place m) m.install;
    }

-- ---- the same manifest with all places set to 0

abbrev pub unplaced_held : Option SequenceTree → Option SequenceTree
unplaced_held None = None
unplaced_held (Some s) = Some (unplaced s)

abbrev pub unplaced_severed : Member → Member
unplaced_severed members.Empty = members.Empty
unplaced_severed (members.Here s) = members.Here (unplaced s)
unplaced_severed (members.Apart digest) = members.Apart digest

abbrev pub unplaced_manifest : Manifest → Manifest
unplaced_manifest m =
    record m {
      shared = unplaced_held m.shared;
      validate = unplaced_held m.validate;
      load = unplaced_held m.load;
      invoke = unplaced_held m.invoke;
      payload_fetch = unplaced_severed m.payload_fetch;
      install = unplaced_severed m.install;
    }
