-- Parameters (draft-ietf-suit-manifest-25, section 8.4.8): a map of keys and values.
use Rattle.std.specs.Prelude.{◌≡◌, ◌<◌, ◌≤◌, ℕ, ◌+◌, List, [], ◌∷◌, Bool, length}
use Rattle.det_cbor.specs.Heads.{head_bytes}
use Rattle.det_cbor.specs.DataItem.{DataItem, UnsignedInteger, ByteString, TextString, MapOf, Boolean, DataPairs, NoPairs, PairThen, pair_count, spell}
use Rattle.suit_params.specs.declared.digest.Digest.{Digest}
use Rattle.suit_params.specs.declared.param.Param.{Param}
use Rattle.suit_params.specs.declared.param.Param.TheVariants as params
use Rattle.suit_params.specs.declared.param.ParamKey.{ParamKey}
use Rattle.suit_params.specs.declared.param.ParamKey.TheVariants as keys
use Rattle.suit_params.specs.declared.refusal.Refusal.{Refusal}
use Rattle.suit_params.specs.declared.refusal.Why.TheVariants.{Shape, UnknownParam, BadParam, BadIndex}
use Rattle.suit_params.specs.Refusing.{refused, IsByteString, content_place, RefusesWhole, SaysWhole}
use Rattle.suit_params.specs.Digests.{IsDigest, RefusesDigest}
use Rattle.suit_params.specs.ParamKeys.{key_item}

-- ---- values: which parameter an item says under a key, given the number of components

pub data SaysValue (count place : ℕ) : ParamKey → DataItem → Param → Type 0 where
  SaysVendor : (id : List ℕ) → length id ≡ 16
      → SaysValue count place keys.Vendor (ByteString id) (params.Vendor id)
  SaysClass : (id : List ℕ) → length id ≡ 16
      → SaysValue count place keys.Class (ByteString id) (params.Class id)
  SaysDevice : (id : List ℕ) → length id ≡ 16
      → SaysValue count place keys.Device (ByteString id) (params.Device id)
  SaysDigest : (content : List ℕ) (digest : Digest)
      → SaysWhole IsDigest (content_place place content) content digest
      → SaysValue count place keys.Digest (ByteString content)
      (params.Digest digest)
  SaysSlot : (n : ℕ) → SaysValue count place keys.Slot (UnsignedInteger n) (params.Slot n)
  SaysStrict : (b : Bool) → SaysValue count place keys.Strict (Boolean b) (params.Strict b)
  SaysSoft : (b : Bool) → SaysValue count place keys.Soft (Boolean b) (params.Soft b)
  SaysSize : (n : ℕ) → SaysValue count place keys.Size (UnsignedInteger n) (params.Size n)
  SaysContent : (bytes : List ℕ)
      → SaysValue count place keys.Content (ByteString bytes) (params.Content bytes)
  SaysUri : (text : List ℕ) → SaysValue count place keys.Uri (TextString text) (params.Uri text)
  SaysSource : (i : ℕ) → i < count
      → SaysValue count place keys.Source (UnsignedInteger i) (params.Source i)
  SaysArgs : (bytes : List ℕ)
      → SaysValue count place keys.Args (ByteString bytes) (params.Args bytes)

-- ---- the map

-- the places of a pair's value and of the next pair, for a pair that begins at a place
abbrev pub value_place : ℕ → DataItem → ℕ
value_place place key = place + length (spell key)

abbrev pub next_place : ℕ → DataItem → DataItem → ℕ
next_place place key value = value_place place key + length (spell value)

-- pairs that begin at this place say these parameters, one after another
pub data SayParams (count : ℕ) : ℕ → DataPairs → List Param → Type 0 where
  NoMore : (place : ℕ) → SayParams count place NoPairs []
  ParamThen :
      (place : ℕ) (key : ParamKey) (value : DataItem) (others : DataPairs) (p : Param)
      (ps : List Param)
      → SaysValue count (value_place place (key_item key)) key value p
      → SayParams count (next_place place (key_item key) value) others ps
      → SayParams count place (PairThen (key_item key) value others) (p ∷ ps)

-- the place of the first key
abbrev pub pairs_place : ℕ → DataPairs → ℕ
pairs_place place pairs = place + length (head_bytes 5 (pair_count pairs))

-- the item is a map whose pairs say these parameters
pub data IsParams (count place : ℕ) : DataItem → List Param → Type 0 where
  ParamMap : (pairs : DataPairs) (ps : List Param)
      → SayParams count (pairs_place place pairs) pairs ps → IsParams count place (MapOf pairs) ps

-- ---- refusals

-- kinds of items
abbrev pub IsIdentifier : DataItem → Type 0
IsIdentifier (ByteString id) = length id ≡ 16
IsIdentifier _ = ⊥

abbrev pub IsUnsigned : DataItem → Type 0
IsUnsigned (UnsignedInteger n) = Unit {0}
IsUnsigned _ = ⊥

abbrev pub IsBoolean : DataItem → Type 0
IsBoolean (Boolean b) = Unit {0}
IsBoolean _ = ⊥

abbrev pub IsText : DataItem → Type 0
IsText (TextString text) = Unit {0}
IsText _ = ⊥

-- the kind of the values under a key; a digest, a content and arguments are byte strings
abbrev pub IsOfKind : ParamKey → DataItem → Type 0
IsOfKind keys.Vendor x = IsIdentifier x
IsOfKind keys.Class x = IsIdentifier x
IsOfKind keys.Device x = IsIdentifier x
IsOfKind keys.Slot x = IsUnsigned x
IsOfKind keys.Strict x = IsBoolean x
IsOfKind keys.Soft x = IsBoolean x
IsOfKind keys.Size x = IsUnsigned x
IsOfKind keys.Uri x = IsText x
IsOfKind keys.Source x = IsUnsigned x
IsOfKind _ x = IsByteString x

-- the refusals of a value: another kind of item, a bad digest, or a source that is no component
pub data RefusesValue (count place : ℕ) : ParamKey → DataItem → Refusal → Type 0 where
  OtherKind : (key : ParamKey) (x : DataItem) → (IsOfKind key x → ⊥)
      → RefusesValue count place key x (refused place BadParam)
  BadDigest : (content : List ℕ) (r : Refusal)
      → RefusesWhole RefusesDigest (content_place place content) content r
      → RefusesValue count place keys.Digest (ByteString content) r
  NoComponent : (i : ℕ) → count ≤ i
      → RefusesValue count place keys.Source (UnsignedInteger i) (refused place (BadIndex i count))

-- the refusals of pairs: each key is judged before its value, and each pair before the next
pub data RefusesPairs (count : ℕ) : ℕ → DataPairs → Refusal → Type 0 where
  OtherKey : (place : ℕ) (key value : DataItem) (others : DataPairs)
      → ((known : ParamKey) → key ≡ key_item known → ⊥)
      → RefusesPairs count place (PairThen key value others) (refused place UnknownParam)
  BadValue : (place : ℕ) (key : ParamKey) (value : DataItem) (others : DataPairs) (r : Refusal)
      → RefusesValue count (value_place place (key_item key)) key value r
      → RefusesPairs count place (PairThen (key_item key) value others) r
  BadLater :
      (place : ℕ) (key : ParamKey) (value : DataItem) (others : DataPairs) (p : Param) (r : Refusal)
      → SaysValue count (value_place place (key_item key)) key value p
      → RefusesPairs count (next_place place (key_item key) value) others r
      → RefusesPairs count place (PairThen (key_item key) value others) r

abbrev pub IsMap : DataItem → Type 0
IsMap (MapOf pairs) = Unit {0}
IsMap _ = ⊥

-- the refusals of an item that must be a map of parameters
pub data RefusesParams (count place : ℕ) : DataItem → Refusal → Type 0 where
  NoMap : (x : DataItem) → (IsMap x → ⊥) → RefusesParams count place x (refused place Shape)
  BadPairs : (pairs : DataPairs) (r : Refusal)
      → RefusesPairs count (pairs_place place pairs) pairs r
      → RefusesParams count place (MapOf pairs) r
