-- The first fault of bytes that do not begin with an item, case by case (RFC 8949, sections 3 and 4.2.1). A
-- place is in bytes from the first one.
use Rattle.std.specs.Prelude.{◌≡◌, ◌≢◌, ◌<◌, ◌≤◌, ◌^◌, ◌+◌, ◌*◌, ℕ, true, List, [], ◌∷◌, ◌++◌, length, Option, Some, None, ◌==◌, if◌then◌else◌}
use Rattle.std.specs.Str.{IsUtf8}
use Rattle.std.specs.Ordering.{is_lt, nat_cmp}
use Rattle.std.specs.Cmp.Lexicographic.{slice_cmp}
use Rattle.std.specs.Int.{Width, w8, w16, w32, w64, byte_len, to_be_bytes}
use Rattle.det_cbor.specs.declared.reason.Reason.{Reason}
use Rattle.det_cbor.specs.declared.reason.Reason.TheVariants.{Truncated, Indefinite, Kind, NotShortest, TooDeep, BadText, Repeated, Order}
use Rattle.det_cbor.specs.DataItem.{DataItem, DataItems, DataPairs, NoPairs, PairThen, item_count, pair_count, spell, spell_items, spell_pairs, IsString, IsAbove, IsValidWithin, AreValidWithin, ArePairsWithin}
use Rattle.det_cbor.specs.Heads.{head_bytes}

-- the width of the argument after a first byte whose lower five bits are 24 to 27
abbrev pub width_of : ℕ → Width
width_of low = if low == 24 then w8 else if low == 25 then w16 else if low == 26 then w32 else w64

-- The bytes do not begin with a head. A first byte is 32 times the major type plus the lower five bits.
pub data BadHead : List ℕ → ℕ → Reason → Type 0 where
  -- there are no bytes
  NothingThere : BadHead [] 0 Truncated
  -- the length is indefinite
  LeftOpen : (major : ℕ) (rest : List ℕ) → major < 8
      → BadHead ((32 * major + 31) ∷ rest) 0 Indefinite
  -- reserved heads, and simple values other than false, true and null
  Reserved : (major low : ℕ) (rest : List ℕ) → major < 8 → 28 ≤ low → low ≤ 30
      → BadHead ((32 * major + low) ∷ rest) 0 Kind
  OtherSimple : (low : ℕ) (rest : List ℕ) → low < 28 → low ≢ 20 → low ≢ 21 → low ≢ 22
      → BadHead ((32 * 7 + low) ∷ rest) 0 Kind
  -- the input ends inside the argument
  CutShort : (major low : ℕ) (rest : List ℕ) → major < 7 → 24 ≤ low → low ≤ 27
      → length rest < byte_len (width_of low)
      → BadHead ((32 * major + low) ∷ rest) (length ((32 * major + low) ∷ rest)) Truncated
  -- a shorter head spells the same argument
  NotTheShortest : (major low argument : ℕ) (rest : List ℕ) → major < 7 → 24 ≤ low → low ≤ 27
      → argument < 256 ^ byte_len (width_of low)
      → length (head_bytes major argument) < 1 + byte_len (width_of low)
      → BadHead ((32 * major + low) ∷ (to_be_bytes (width_of low) argument ++ rest)) 0 NotShortest

-- ---- items

-- the spelling of the last key among the pairs, or else of the key before them
abbrev pub last_key : Option (List ℕ) → DataPairs → Option (List ℕ)
last_key before NoPairs = before
last_key before (PairThen key value ps) = last_key (Some (spell key)) ps

-- a map's head and its first pairs, which are valid inside `levels` arrays, maps and tags; more pairs are due
pub record StartsMap (levels : ℕ) (before : DataPairs) (front : List ℕ) : Type 0 where
  pub count : ℕ
  pub fits : count < 2 ^ 64
  pub more : pair_count before < count
  pub valid : ArePairsWithin levels None before
  pub is : front ≡ head_bytes 5 count ++ spell_pairs before

-- the head and the first parts of an array, a map or a tag, after which another part is due
pub data FirstParts (levels : ℕ) : List ℕ → Type 0 where
  OfArray : (count : ℕ) (before : DataItems) → count < 2 ^ 64 → item_count before < count
      → AreValidWithin levels before
      → FirstParts levels (head_bytes 4 count ++ spell_items before)
  OfMap : (before : DataPairs) (front : List ℕ) → StartsMap levels before front
      → FirstParts levels front
  OfKey : (before : DataPairs) (front : List ℕ) (key : DataItem) → StartsMap levels before front
      → IsValidWithin levels key → IsAbove (last_key None before) (spell key)
      → FirstParts levels (front ++ spell key)
  OfTag : (tag : ℕ) → tag < 2 ^ 64 → FirstParts levels (head_bytes 6 tag)

-- the first fault of bytes that are inside a given number of arrays, maps and tags
pub data Faulty : ℕ → List ℕ → ℕ → Reason → Type 0 where
  -- the bytes do not begin with a head
  FaultyHead : (levels : ℕ) (bytes : List ℕ) (place : ℕ) (reason : Reason)
      → BadHead bytes place reason → Faulty levels bytes place reason
  -- an array, a map or a tag that would be the 17th level
  DeepHead : (levels major argument : ℕ) (rest : List ℕ) → 16 ≤ levels → 4 ≤ major → major ≤ 6
      → argument < 2 ^ 64
      → Faulty levels (head_bytes major argument ++ rest) 0 TooDeep
  -- the input ends inside a string
  ShortString : (levels major count : ℕ) (rest : List ℕ) → 2 ≤ major → major ≤ 3 → count < 2 ^ 64
      → length rest < count
      → Faulty levels (head_bytes major count ++ rest) (length (head_bytes major count ++ rest))
      Truncated
  -- the bytes of a text are not UTF-8
  NoText : (levels : ℕ) (text rest : List ℕ) → IsString text → ¬ (IsUtf8 text)
      → Faulty levels (head_bytes 3 (length text) ++ (text ++ rest)) 0 BadText
  -- the next part, after those that were read, is faulty or missing
  FaultyPart : (levels : ℕ) (front rest : List ℕ) (place : ℕ) (reason : Reason) → levels < 16
      → FirstParts (levels + 1) front → Faulty (levels + 1) rest place reason
      → Faulty levels (front ++ rest) (length front + place) reason
  -- a key equals the one before it
  SameKey : (levels : ℕ) (before : DataPairs) (front : List ℕ) (key : DataItem) (rest : List ℕ)
      → levels < 16 → StartsMap (levels + 1) before front → IsValidWithin (levels + 1) key
      → last_key None before ≡ Some (spell key)
      → Faulty levels (front ++ (spell key ++ rest)) (length front) Repeated
  -- a key sorts below the one before it
  LowKey : (levels : ℕ) (before : DataPairs) (front : List ℕ) (key : DataItem) (rest last : List ℕ)
      → levels < 16 → StartsMap (levels + 1) before front → IsValidWithin (levels + 1) key
      → last_key None before ≡ Some last → is_lt (slice_cmp nat_cmp (spell key) last) ≡ true
      → Faulty levels (front ++ (spell key ++ rest)) (length front) Order
