-- Data items, and the one deterministic spelling of each (RFC 8949, section 4.2.1).
use Rattle.std.specs.Prelude.{◌≡◌, ◌<◌, ◌^◌, ◌+◌, ℕ, Bool, true, false, List, [], ◌∷◌, ◌++◌, length, Option, Some, None}
use Rattle.std.specs.List.{AllByRecursion}
use Rattle.std.specs.Str.{IsUtf8}
use Rattle.std.specs.Ordering.{is_lt, nat_cmp}
use Rattle.std.specs.Cmp.Lexicographic.{slice_cmp}
use Rattle.det_cbor.specs.Heads.{head_bytes}

-- a data item; NegativeInteger n stands for -1 - n
mutual
  pub data DataItem : Type 0 where
    UnsignedInteger : ℕ → DataItem
    NegativeInteger : ℕ → DataItem
    ByteString : List ℕ → DataItem
    TextString : List ℕ → DataItem
    ArrayOf : DataItems → DataItem
    MapOf : DataPairs → DataItem
    TaggedItem : ℕ → DataItem → DataItem
    Boolean : Bool → DataItem
    NullItem : DataItem

  pub data DataItems : Type 0 where
    NoItems : DataItems
    ItemThen : DataItem → DataItems → DataItems

  pub data DataPairs : Type 0 where
    NoPairs : DataPairs
    PairThen : DataItem → DataItem → DataPairs → DataPairs

abbrev pub item_count : DataItems → ℕ
item_count NoItems = 0
item_count (ItemThen x xs) = item_count xs + 1

abbrev pub pair_count : DataPairs → ℕ
pair_count NoPairs = 0
pair_count (PairThen key value ps) = pair_count ps + 1

-- the deterministic spelling of an item (section 4.2.1): the shortest head, then the content
abbrev mutual
  pub spell : DataItem → List ℕ
  spell (UnsignedInteger n) = head_bytes 0 n
  spell (NegativeInteger n) = head_bytes 1 n
  spell (ByteString bytes) = head_bytes 2 (length bytes) ++ bytes
  spell (TextString bytes) = head_bytes 3 (length bytes) ++ bytes
  spell (ArrayOf xs) = head_bytes 4 (item_count xs) ++ spell_items xs
  spell (MapOf ps) = head_bytes 5 (pair_count ps) ++ spell_pairs ps
  spell (TaggedItem tag x) = head_bytes 6 tag ++ spell x
  spell (Boolean false) = 0xf4 ∷ []
  spell (Boolean true) = 0xf5 ∷ []
  spell NullItem = 0xf6 ∷ []

  pub spell_items : DataItems → List ℕ
  spell_items NoItems = []
  spell_items (ItemThen x xs) = spell x ++ spell_items xs

  pub spell_pairs : DataPairs → List ℕ
  spell_pairs NoPairs = []
  spell_pairs (PairThen key value ps) = spell key ++ (spell value ++ spell_pairs ps)

-- ---- which items have a spelling

abbrev pub IsByte : ℕ → Type 0
IsByte b = b < 256

-- the bytes can be the content of a string, which has fewer than 2 ^ 64 of them
abbrev pub IsString : List ℕ → Type 0
IsString bytes = (length bytes < 2 ^ 64) × AllByRecursion IsByte bytes

-- a key's spelling is above that of the key before it in bytewise order, if there is one (section 4.2.1)
abbrev pub IsAbove : Option (List ℕ) → List ℕ → Type 0
IsAbove None key = Unit {0}
IsAbove (Some before) key = is_lt (slice_cmp nat_cmp before key) ≡ true

-- the item is valid inside `levels` arrays, maps and tags; at most 16 may nest
abbrev mutual
  pub IsValidWithin : ℕ → DataItem → Type 0
  IsValidWithin levels (UnsignedInteger n) = n < 2 ^ 64
  IsValidWithin levels (NegativeInteger n) = n < 2 ^ 64
  IsValidWithin levels (ByteString bytes) = IsString bytes
  IsValidWithin levels (TextString bytes) = IsString bytes × IsUtf8 bytes
  IsValidWithin levels (ArrayOf xs) =
      (levels < 16) × (item_count xs < 2 ^ 64) × AreValidWithin (levels + 1) xs
  IsValidWithin levels (MapOf ps) =
      (levels < 16) × (pair_count ps < 2 ^ 64) × ArePairsWithin (levels + 1) None ps
  IsValidWithin levels (TaggedItem tag x) =
      (levels < 16) × (tag < 2 ^ 64) × IsValidWithin (levels + 1) x
  IsValidWithin levels (Boolean b) = Unit {0}
  IsValidWithin levels NullItem = Unit {0}

  pub AreValidWithin : ℕ → DataItems → Type 0
  AreValidWithin levels NoItems = Unit {0}
  AreValidWithin levels (ItemThen x xs) = IsValidWithin levels x × AreValidWithin levels xs

  -- the pairs are valid, and their keys ascend above the key before them
  pub ArePairsWithin : ℕ → Option (List ℕ) → DataPairs → Type 0
  ArePairsWithin levels before NoPairs = Unit {0}
  ArePairsWithin levels before (PairThen key value ps) =
      IsValidWithin levels key × IsAbove before (spell key) × IsValidWithin levels value
      × ArePairsWithin levels (Some (spell key)) ps

-- the item is valid; at most 16 arrays, maps and tags nest
abbrev pub IsValid : DataItem → Type 0
IsValid x = IsValidWithin 0 x

-- the item is valid, and these bytes are its spelling
pub record Spells (x : DataItem) (bytes : List ℕ) : Type 0 where
  pub valid : IsValid x
  pub is : bytes ≡ spell x
