-- How an item is skipped: it is judged as when it is read, and only the rest is kept.
use Rattle.std.specs.Prelude.{ℕ, zero, suc, ◌-◌, List, length, take, drop, Option, Some, None, Result, Ok, Err}
use Rattle.det_cbor.specs.declared.head.HeadKind.{HeadKind}
use Rattle.det_cbor.specs.declared.head.HeadKind.TheVariants as kinds
use Rattle.det_cbor.specs.declared.reason.CborRefusal.{CborRefusal}
use Rattle.det_cbor.specs.declared.reason.Stop.{Stop}
use Rattle.det_cbor.specs.HeadReading.{◌>>=◌, map_ok}
use Rattle.det_cbor.specs.ItemReading.{Read, stopped, string_at, text_at, read_of, in_order, nested, head_then, level_below}

-- skips an item: the bytes after it, or where skipping stops
abbrev pub Skipper : Type 0
Skipper = List ℕ → Result (List ℕ) Stop

-- the bytes after what was read
abbrev pub rest_of : {A : Type 0} → Read A → Result (List ℕ) Stop
rest_of r = map_ok (λ x. x.1) r

-- skips the next `count` items
abbrev pub skips_by : Skipper → ℕ → Skipper
skips_by skip zero bytes = Ok bytes
skips_by skip (suc count) bytes = do
  rest ← skip bytes
  skips_by skip count rest

-- skips the next `count` pairs, whose keys must ascend above the key before them
abbrev pub pair_skips_by : Skipper → Option (List ℕ) → ℕ → Skipper
pair_skips_by skip before zero bytes = Ok bytes
pair_skips_by skip before (suc count) bytes = do
  after ← skip bytes
  sorted ← stopped bytes (in_order before (read_of bytes after))
  rest ← skip after
  pair_skips_by skip (Some (read_of bytes after)) count rest

abbrev pub array_skip : Option Skipper → List ℕ → ℕ → List ℕ → Result (List ℕ) Stop
array_skip parts bytes count rest = nested bytes parts >>= λ skip. skips_by skip count rest

abbrev pub map_skip : Option Skipper → List ℕ → ℕ → List ℕ → Result (List ℕ) Stop
map_skip parts bytes count rest = nested bytes parts >>= λ skip. pair_skips_by skip None count rest

abbrev pub tagged_skip : Option Skipper → List ℕ → List ℕ → Result (List ℕ) Stop
tagged_skip parts bytes rest = nested bytes parts >>= λ skip. skip rest

-- the bytes after an item, skipped after its head
abbrev pub skip_body : Option Skipper → List ℕ → ℕ → List ℕ → HeadKind → Result (List ℕ) Stop
skip_body parts bytes value rest kinds.Unsigned = Ok rest
skip_body parts bytes value rest kinds.Negative = Ok rest
skip_body parts bytes value rest kinds.Bytes = rest_of (stopped bytes (string_at value rest))
skip_body parts bytes value rest kinds.Text = rest_of (stopped bytes (text_at value rest))
skip_body parts bytes value rest kinds.Array = array_skip parts bytes value rest
skip_body parts bytes value rest kinds.Map = map_skip parts bytes value rest
skip_body parts bytes value rest kinds.Tag = tagged_skip parts bytes rest
skip_body parts bytes value rest kinds.Bool = Ok rest
skip_body parts bytes value rest kinds.Null = Ok rest

-- skips an item, given the skipper of its parts
abbrev pub skip_with : Option Skipper → Skipper
skip_with parts bytes = head_then bytes (skip_body parts bytes)

-- skips an item that nests at most `levels` deep
unfoldable pub skip_at : ℕ → Skipper
skip_at zero bytes = skip_with None bytes
skip_at (suc levels) bytes = skip_with (Some (skip_at levels)) bytes

-- the skipper of an item's parts
abbrev pub parts_at : ℕ → Option Skipper
parts_at levels = level_below skip_at levels

-- ---- the first item of bytes, at most 16 levels deep

abbrev pub split_by : List ℕ → Result (List ℕ) Stop → Result (List ℕ × List ℕ) CborRefusal
split_by bytes (Ok rest) =
    Ok (take (length bytes - length rest) bytes, drop (length bytes - length rest) bytes)
split_by bytes (Err s) = Err (record { place = length bytes - s.left; reason = s.reason })

-- the bytes of the first item and those after it, or the place of the fault
unfoldable pub item_split : List ℕ → Result (List ℕ × List ℕ) CborRefusal
item_split bytes = split_by bytes (skip_at 16 bytes)
