-- How an item is read: from left to right, up to the first fault.
use Rattle.std.specs.Prelude.{ℕ, zero, suc, ◌-◌, ◌==◌, nat_lt, if◌then◌else◌, List, [], ◌∷◌, length, take, drop, Option, Some, None, Result, Ok, Err}
use Rattle.std.specs.Str.{is_utf8}
use Rattle.std.specs.declared.cmp.Ordering.{Ordering}
use Rattle.std.specs.declared.cmp.Ordering.TheVariants.{Less, Equal, Greater}
use Rattle.std.specs.Ordering.{nat_cmp}
use Rattle.std.specs.Cmp.Lexicographic.{slice_cmp}
use Rattle.det_cbor.specs.declared.head.HeadKind.{HeadKind}
use Rattle.det_cbor.specs.declared.head.HeadKind.TheVariants as kinds
use Rattle.det_cbor.specs.declared.reason.Reason.{Reason}
use Rattle.det_cbor.specs.declared.reason.Reason.TheVariants.{Truncated, TooDeep, BadText, Repeated, Order}
use Rattle.det_cbor.specs.declared.reason.Stop.{Stop}
use Rattle.det_cbor.specs.DataItem.{DataItem, UnsignedInteger, NegativeInteger, ByteString, TextString, ArrayOf, MapOf, TaggedItem, Boolean, NullItem}
use Rattle.det_cbor.specs.DataLists.{items_of, pairs_of}
use Rattle.det_cbor.specs.HeadReading.{◌>>=◌, head_at}

-- what is read and the bytes after it, or where reading stops
abbrev pub Read : Type 0 → Type 0
Read A = Result (A × List ℕ) Stop

-- reads an item
abbrev pub Reader : Type 0
Reader = List ℕ → Read DataItem

-- where a reader stops at a head or a string: at the end of the input if it is truncated, otherwise at the
-- head
abbrev pub stop_at : List ℕ → Reason → Stop
stop_at bytes Truncated = record { left = 0; reason = Truncated }
stop_at bytes reason = record { left = length bytes; reason = reason }

abbrev pub stopped : {A : Type 0} → List ℕ → Result A Reason → Result A Stop
stopped bytes (Ok x) = Ok x
stopped bytes (Err reason) = Err (stop_at bytes reason)

-- ---- strings

-- the next `count` bytes, and those after them
abbrev pub string_at : ℕ → List ℕ → Result (List ℕ × List ℕ) Reason
string_at count rest =
    if nat_lt (length rest) count then Err Truncated else Ok (take count rest, drop count rest)

abbrev pub utf8_text : List ℕ → Option (List ℕ)
utf8_text bytes = if is_utf8 bytes then Some bytes else None

-- the same for a text, which must be UTF-8
abbrev pub text_at : ℕ → List ℕ → Result (List ℕ × List ℕ) Reason
text_at count rest = string_at count rest >>= λ s. if is_utf8 s.0 then Ok s else Err BadText

-- ---- the parts of an array, a map and a tag, given a reader for each part

-- the next `count` items
abbrev pub items_by : Reader → ℕ → List ℕ → Read (List DataItem)
items_by read zero bytes = Ok ([], bytes)
items_by read (suc count) bytes = do
  first ← read bytes
  others ← items_by read count first.1
  Ok (first.0 ∷ others.0, others.1)

-- the bytes up to the rest, which is their tail
abbrev pub read_of : List ℕ → List ℕ → List ℕ
read_of bytes rest = take (length bytes - length rest) bytes

-- whether a key is above the one before it, given how that one compares with it
abbrev pub ascending : Ordering → Result Unit Reason
ascending Less = Ok tt
ascending Equal = Err Repeated
ascending Greater = Err Order

-- a key is above the key before it, if there is one
abbrev pub in_order : Option (List ℕ) → List ℕ → Result Unit Reason
in_order None key = Ok tt
in_order (Some before) key = ascending (slice_cmp nat_cmp before key)

-- the next `count` pairs, whose keys must ascend above the key before them
abbrev pub pairs_by : Reader → Option (List ℕ) → ℕ → List ℕ → Read (List (DataItem × DataItem))
pairs_by read before zero bytes = Ok ([], bytes)
pairs_by read before (suc count) bytes = do
  key ← read bytes
  sorted ← stopped bytes (in_order before (read_of bytes key.1))
  value ← read key.1
  others ← pairs_by read (Some (read_of bytes key.1)) count value.1
  Ok ((key.0, value.0) ∷ others.0, others.1)

-- ---- items

-- the reader of the parts, unless no level is left
abbrev pub nested : {A : Type 0} → List ℕ → Option A → Result A Stop
nested bytes None = Err (stop_at bytes TooDeep)
nested bytes (Some read) = Ok read

-- the items that have content or parts, read after their heads
abbrev pub string_item : List ℕ → ℕ → List ℕ → Read DataItem
string_item bytes count rest =
    stopped bytes (string_at count rest) >>= λ s. Ok (ByteString s.0, s.1)

abbrev pub text_item : List ℕ → ℕ → List ℕ → Read DataItem
text_item bytes count rest = stopped bytes (text_at count rest) >>= λ s. Ok (TextString s.0, s.1)

abbrev pub array_item : Option Reader → List ℕ → ℕ → List ℕ → Read DataItem
array_item parts bytes count rest =
    nested bytes parts >>= λ read. items_by read count rest
    >>= λ xs. Ok (ArrayOf (items_of xs.0), xs.1)

abbrev pub map_item : Option Reader → List ℕ → ℕ → List ℕ → Read DataItem
map_item parts bytes count rest =
    nested bytes parts >>= λ read. pairs_by read None count rest
    >>= λ ps. Ok (MapOf (pairs_of ps.0), ps.1)

abbrev pub tagged_item : Option Reader → List ℕ → ℕ → List ℕ → Read DataItem
tagged_item parts bytes tag rest =
    nested bytes parts >>= λ read. read rest >>= λ x. Ok (TaggedItem tag x.0, x.1)

-- an item, read after its head
abbrev pub body_with : Option Reader → List ℕ → ℕ → List ℕ → HeadKind → Read DataItem
body_with parts bytes value rest kinds.Unsigned = Ok (UnsignedInteger value, rest)
body_with parts bytes value rest kinds.Negative = Ok (NegativeInteger value, rest)
body_with parts bytes value rest kinds.Bytes = string_item bytes value rest
body_with parts bytes value rest kinds.Text = text_item bytes value rest
body_with parts bytes value rest kinds.Array = array_item parts bytes value rest
body_with parts bytes value rest kinds.Map = map_item parts bytes value rest
body_with parts bytes value rest kinds.Tag = tagged_item parts bytes value rest
body_with parts bytes value rest kinds.Bool = Ok (Boolean (value == 1), rest)
body_with parts bytes value rest kinds.Null = Ok (NullItem, rest)

-- reads a head, and then what its kind and value call for
abbrev pub head_then :
    {A : Type 0} → List ℕ → (ℕ → List ℕ → HeadKind → Result A Stop) → Result A Stop
head_then bytes body = stopped bytes (head_at bytes) >>= λ h. body h.0.value h.1 h.0.kind

-- reads an item, given the reader of its parts
abbrev pub item_with : Option Reader → Reader
item_with parts bytes = head_then bytes (body_with parts bytes)

-- reads an item that nests at most `levels` deep
unfoldable pub item_at : ℕ → Reader
item_at zero bytes = item_with None bytes
item_at (suc levels) bytes = item_with (Some (item_at levels)) bytes

-- what is made for one level less, if a level is left
abbrev pub level_below : {A : Type 0} → (ℕ → A) → ℕ → Option A
level_below made zero = None
level_below made (suc levels) = Some (made levels)

-- the reader of an item's parts
abbrev pub reader_at : ℕ → Option Reader
reader_at levels = level_below item_at levels
