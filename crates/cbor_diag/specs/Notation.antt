-- The diagnostic notation of a data item (RFC 8949, section 8).
use Rattle.std.specs.Prelude.{ℕ, suc, nat_lt, ◌==◌, ◌||◌, if◌then◌else◌, true, false, List, [], ◌∷◌, ◌++◌, codes, decimal}
use Rattle.hex.specs.Hex.{encode_lower}
use Rattle.det_cbor.specs.DataItem.{DataItem, UnsignedInteger, NegativeInteger, ByteString, TextString, ArrayOf, MapOf, TaggedItem, Boolean, NullItem, DataItems, NoItems, ItemThen, DataPairs, NoPairs, PairThen}

-- ---- strings

-- the bytes in hexadecimal, as in `h'00ff'`
abbrev pub bytes_notation : List ℕ → List ℕ
bytes_notation bytes = codes "h'" ++ (encode_lower bytes ++ codes "'")

-- A byte of a text: a quote, a backslash or a control character is escaped. Each byte of a character above
-- 127 is above 127 too, and is left alone.
abbrev pub escape : ℕ → List ℕ
escape b =
    if (b == 34) || (b == 92) then 92 ∷ b ∷ []
    else if nat_lt b 32 || (b == 127) then codes "\\u00" ++ encode_lower (b ∷ [])
    else b ∷ []

abbrev pub escaped : List ℕ → List ℕ
escaped [] = []
escaped (b ∷ bytes) = escape b ++ escaped bytes

-- the escaped text in double quotes
abbrev pub text_notation : List ℕ → List ℕ
text_notation bytes = codes "\"" ++ (escaped bytes ++ codes "\"")

-- ---- items

-- the notation of an item; NegativeInteger n stands for -1 - n
abbrev mutual
  pub notation_of : DataItem → List ℕ
  notation_of (UnsignedInteger n) = decimal n
  notation_of (NegativeInteger n) = codes "-" ++ decimal (suc n)
  notation_of (ByteString bytes) = bytes_notation bytes
  notation_of (TextString bytes) = text_notation bytes
  notation_of (ArrayOf xs) = codes "[" ++ (items_notation xs ++ codes "]")
  notation_of (MapOf ps) = codes "{" ++ (pairs_notation ps ++ codes "}")
  notation_of (TaggedItem tag x) = decimal tag ++ (codes "(" ++ (notation_of x ++ codes ")"))
  notation_of (Boolean false) = codes "false"
  notation_of (Boolean true) = codes "true"
  notation_of NullItem = codes "null"

  pub items_notation : DataItems → List ℕ
  items_notation NoItems = []
  items_notation (ItemThen x xs) = notation_of x ++ later_items xs

  -- the items after the first
  pub later_items : DataItems → List ℕ
  later_items NoItems = []
  later_items (ItemThen x xs) = codes ", " ++ (notation_of x ++ later_items xs)

  pub pairs_notation : DataPairs → List ℕ
  pairs_notation NoPairs = []
  pairs_notation (PairThen key value ps) =
      notation_of key ++ (codes ": " ++ (notation_of value ++ later_pairs ps))

  -- the pairs after the first
  pub later_pairs : DataPairs → List ℕ
  later_pairs NoPairs = []
  later_pairs (PairThen key value ps) =
      codes ", " ++ (notation_of key ++ (codes ": " ++ (notation_of value ++ later_pairs ps)))
