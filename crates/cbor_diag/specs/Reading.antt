-- How a text is read. The reader accepts a little more than notations.
use Rattle.std.specs.Prelude.{ℕ, zero, suc, ◌+◌, ◌-◌, ◌*◌, ◌^◌, nat_lt, nat_le, ◌==◌, ◌&&◌, if◌then◌else◌, Bool, true, false, List, [], ◌∷◌, length, codes, Option, Some, None}
use Rattle.std.specs.Str.{is_utf8}
use Rattle.hex.specs.Hex.{hex_digit_value}
use Rattle.det_cbor.specs.DataItem.{DataItem, UnsignedInteger, NegativeInteger, ByteString, TextString, ArrayOf, MapOf, TaggedItem, Boolean, NullItem}
use Rattle.det_cbor.specs.DataLists.{items_of, pairs_of}
use Rattle.cbor_diag.specs.declared.quoted.Quoted.{Quoted}
use Rattle.cbor_diag.specs.declared.quoted.Quoted.TheVariants as quoted

infixl 10 ◌>>=◌
-- goes on with what was read, or stops
abbrev pub ◌>>=◌ : {A B : Type 0} → Option A → (A → Option B) → Option B
(Some x) >>= f = f x
None >>= f = None

-- what is read, and what follows it
abbrev pub Read : Type 0 → Type 0
Read A = Option (A × List ℕ)

abbrev pub Reader : Type 0
Reader = List ℕ → Read DataItem

-- the one result if something is there, and the other if not
abbrev pub if_there : {A B : Type 0} → Option A → (A → B) → B → B
if_there (Some x) f other = f x
if_there None f other = other

-- ---- marks

-- what follows the mark, if the text begins with it
abbrev pub after : List ℕ → List ℕ → Option (List ℕ)
after [] text = Some text
after (m ∷ mark) [] = None
after (m ∷ mark) (b ∷ text) = if b == m then after mark text else None

-- what follows the mark; without the mark, the text itself
abbrev pub past : List ℕ → List ℕ → List ℕ
past mark text = if_there (after mark text) (λ rest. rest) text

-- ---- numbers

abbrev pub is_digit : ℕ → Bool
is_digit b = nat_le 48 b && nat_le b 57

-- the number that the digits at the front make after the number n
abbrev pub number_at : ℕ → List ℕ → Read ℕ
number_at n [] = Some (n, [])
number_at n (b ∷ text) =
    if is_digit b then (if nat_le n (2 ^ 64) then number_at (n * 10 + (b - 48)) text else None)
    else Some (n, b ∷ text)

-- the negative integer with this absolute value, which is from 1 to 2 ^ 64
abbrev pub negative_of : ℕ × List ℕ → Read DataItem
negative_of r =
    if r.0 == 0 then None
    else if nat_le r.0 (2 ^ 64) then Some (NegativeInteger (r.0 - 1), r.1) else None

-- a negative integer, read after its sign
abbrev pub negative_at : Reader
negative_at text = number_at 0 text >>= negative_of

-- ---- strings

abbrev pub first : List ℕ → Read ℕ
first [] = None
first (b ∷ text) = Some (b, text)

-- a byte from two hexadecimal digits
abbrev pub hex_byte : List ℕ → Read ℕ
hex_byte text = do
  high ← first text
  low ← first high.1
  h ← hex_digit_value high.0
  l ← hex_digit_value low.0
  Some (h * 16 + l, low.1)

-- a byte after a backslash stands for itself
abbrev pub plain : ℕ × List ℕ → Read ℕ
plain r = if r.0 == 92 then if_there (first r.1) Some (Some r) else Some r

-- one byte of a text, which may be escaped
abbrev pub character : List ℕ → Read ℕ
character text = if_there (after (codes "\\u00") text) hex_byte (first text >>= plain)

abbrev pub quote_of : Quoted → List ℕ
quote_of quoted.Bytes = codes "'"
quote_of quoted.Text = codes "\""

abbrev pub piece_at : Quoted → List ℕ → Read ℕ
piece_at quoted.Bytes text = hex_byte text
piece_at quoted.Text text = character text

-- the pieces up to the closing quote, in at most `count` steps
abbrev pub quoted_by : Quoted → ℕ → List ℕ → Read (List ℕ)
quoted_by kind zero text = None
quoted_by kind (suc count) text =
    if_there (after (quote_of kind) text) (λ rest. Some ([], rest))
    (piece_at kind text >>= λ b. quoted_by kind count b.1 >>= λ others. Some (b.0 ∷ others.0, others.1))

abbrev pub quoted_at : Quoted → List ℕ → Read (List ℕ)
quoted_at kind text = quoted_by kind (length text) text

abbrev pub bytes_at : Reader
bytes_at text = quoted_at quoted.Bytes text >>= λ r. Some (ByteString r.0, r.1)

abbrev pub text_at : Reader
text_at text =
    quoted_at quoted.Text text >>= λ r. if is_utf8 r.0 then Some (TextString r.0, r.1) else None

-- ---- the parts of an array, a map and a tag, given a reader for each part

abbrev pub items_by : Reader → ℕ → List ℕ → Read (List DataItem)
items_by read zero text = None
items_by read (suc count) text =
    if_there (after (codes "]") text) (λ rest. Some ([], rest))
    (read text >>= λ x. items_by read count (past (codes ", ") x.1)
    >>= λ others. Some (x.0 ∷ others.0, others.1))

abbrev pub pairs_by : Reader → ℕ → List ℕ → Read (List (DataItem × DataItem))
pairs_by read zero text = None
pairs_by read (suc count) text =
    if_there (after (codes "}") text) (λ rest. Some ([], rest))
    (read text >>= λ key. read (past (codes ": ") key.1)
    >>= λ value. pairs_by read count (past (codes ", ") value.1)
    >>= λ others. Some ((key.0, value.0) ∷ others.0, others.1))

-- ---- items

abbrev pub array_at : Option Reader → Reader
array_at parts text =
    parts >>= λ read. items_by read (length text) text >>= λ r. Some (ArrayOf (items_of r.0), r.1)

abbrev pub map_at : Option Reader → Reader
map_at parts text =
    parts >>= λ read. pairs_by read (length text) text >>= λ r. Some (MapOf (pairs_of r.0), r.1)

abbrev pub tagged_at : Option Reader → ℕ → Reader
tagged_at parts tag text =
    parts >>= λ read. read text >>= λ x. after (codes ")") x.1
    >>= λ rest. Some (TaggedItem tag x.0, rest)

-- an unsigned integer, or a tag and its item
abbrev pub numbered_of : Option Reader → ℕ × List ℕ → Read DataItem
numbered_of parts r =
    if nat_lt r.0 (2 ^ 64)
    then if_there (after (codes "(") r.1) (tagged_at parts r.0) (Some (UnsignedInteger r.0, r.1))
    else None

abbrev pub numbered_at : Option Reader → Reader
numbered_at parts text = number_at 0 text >>= numbered_of parts

abbrev pub word_at : Reader
word_at text =
    if_there (after (codes "true") text) (λ rest. Some (Boolean true, rest))
    (if_there (after (codes "false") text) (λ rest. Some (Boolean false, rest))
    (if_there (after (codes "null") text) (λ rest. Some (NullItem, rest)) None))

-- an item that does not begin with a digit
abbrev pub marked_at : Option Reader → Reader
marked_at parts text =
    if_there (after (codes "-") text) negative_at
    (if_there (after (codes "h'") text) bytes_at
    (if_there (after (codes "\"") text) text_at
    (if_there (after (codes "[") text) (array_at parts)
    (if_there (after (codes "{") text) (map_at parts)
    (word_at text)))))

abbrev pub item_with : Option Reader → Reader
item_with parts [] = None
item_with parts (b ∷ text) =
    if is_digit b then numbered_at parts (b ∷ text) else marked_at parts (b ∷ text)

-- reads an item that nests at most `levels` deep
unfoldable pub item_at : ℕ → Reader
item_at zero text = item_with None text
item_at (suc levels) text = item_with (Some (item_at levels)) text

-- the reader of an item's parts
abbrev pub reader_at : ℕ → Option Reader
reader_at zero = None
reader_at (suc levels) = Some (item_at levels)
