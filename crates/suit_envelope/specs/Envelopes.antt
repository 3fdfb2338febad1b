-- The envelope (draft-ietf-suit-manifest-25, section 8.2): a map, which may have tag 107.
use Rattle.std.specs.Prelude.{◌≡◌, ◌≢◌, ℕ, ◌+◌, ◌==◌, ◌||◌, Bool, true, false, if◌then◌else◌, List, [], ◌∷◌, length, Option, Some, None}
use Rattle.std.specs.List.{AllByRecursion}
use Rattle.det_cbor.specs.Heads.{head_bytes}
use Rattle.det_cbor.specs.DataItem.{DataItem, UnsignedInteger, TextString, ByteString, MapOf, TaggedItem, DataPairs, NoPairs, PairThen, pair_count, spell}
use Rattle.suit_params.specs.declared.digest.Digest.{Digest}
use Rattle.suit_params.specs.declared.refusal.Refusal.{Refusal}
use Rattle.suit_params.specs.declared.refusal.Why.TheVariants.{Shape, UnknownKey, Missing}
use Rattle.suit_params.specs.Refusing.{refused, IsByteString, content_place, RefusesHeld, SaysHeld, RefusesFirst}
use Rattle.suit_envelope.specs.Wrapper.{IsWrapper, RefusesWrapper}
use Rattle.suit_envelope.specs.declared.key.Key.{Key}
use Rattle.suit_envelope.specs.declared.key.Key.TheVariants.{Wrapper, Manifest, PayloadFetch, Install, Text, Payload, Unknown}

-- ---- keys

-- the member whose key is this number
abbrev pub numbered_key : ℕ → Key
numbered_key n =
    if n == 2 then Wrapper
    else if n == 3 then Manifest
    else if n == 16 then PayloadFetch
    else if n == 20 then Install
    else if n == 23 then Text
    else Unknown

-- the member that a key stands for; a text is the key of an integrated payload
abbrev pub key_of : DataItem → Key
key_of (UnsignedInteger n) = numbered_key n
key_of (TextString text) = Payload
key_of _ = Unknown

-- ---- the pairs of the map, and their places

-- a pair of the map, with the places of its key and its value
pub record Entry : Type 0 where
  pub key : DataItem
  pub key_place : ℕ
  pub value : DataItem
  pub value_place : ℕ

-- the pairs, whose first key is at this place
abbrev pub entries : ℕ → DataPairs → List Entry
entries place NoPairs = []
entries place (PairThen key value ps) =
    record { key = key; key_place = place; value = value; value_place = place + length (spell key) }
    ∷ entries (place + length (spell key) + length (spell value)) ps

-- whether there is tag 107, and the map's place and pairs
pub record EnvelopeMap : Type 0 where
  pub tagged : Bool
  pub place : ℕ
  pub pairs : DataPairs

-- the pairs of the map with their places
abbrev pub map_entries : EnvelopeMap → List Entry
map_entries m = entries (m.place + length (head_bytes 5 (pair_count m.pairs))) m.pairs

-- the content of tag 107, or the item itself: whether there is the tag, the item's place, and the item
abbrev pub untagged : ℕ → DataItem → Bool × ℕ × DataItem
untagged place (TaggedItem tag x) =
    if tag == 107 then (true, place + length (head_bytes 6 tag), x)
    else (false, place, TaggedItem tag x)
untagged place x = (false, place, x)

abbrev pub as_map : Bool → ℕ → DataItem → Option EnvelopeMap
as_map tagged place (MapOf ps) = Some (record { tagged = tagged; place = place; pairs = ps })
as_map tagged place _ = None

-- the map of an envelope, which may be in tag 107; None if the item is no map
abbrev pub envelope_map : ℕ → DataItem → Option EnvelopeMap
envelope_map place x = let u = untagged place x in as_map u.0 u.1 u.2

-- ---- the meaning of an envelope

-- What an envelope says: whether it has tag 107, the contents of the members' byte strings, and where those
-- of all but the text are. Integrated payloads are not among them.
pub record EnvelopeSays : Type 0 where
  pub tagged : Bool
  pub wrapper : List ℕ
  pub wrapper_place : ℕ
  pub manifest : List ℕ
  pub manifest_place : ℕ
  pub payload_fetch : Option (List ℕ)
  pub payload_fetch_place : ℕ
  pub install : Option (List ℕ)
  pub install_place : ℕ
  pub text : Option (List ℕ)

-- what is said before the first pair
abbrev pub says_nothing : Bool → EnvelopeSays
says_nothing tagged =
    record {
      tagged = tagged;
      wrapper = [];
      wrapper_place = 0;
      manifest = [];
      manifest_place = 0;
      payload_fetch = None;
      payload_fetch_place = 0;
      install = None;
      install_place = 0;
      text = None;
    }

-- the content of a key, at its place, is put where it belongs
abbrev pub put : EnvelopeSays → Key → List ℕ → ℕ → EnvelopeSays
put s Wrapper content place = record s { wrapper = content; wrapper_place = place }
put s Manifest content place = record s { manifest = content; manifest_place = place }
put s PayloadFetch content place =
    record s { payload_fetch = Some content; payload_fetch_place = place }
put s Install content place = record s { install = Some content; install_place = place }
put s Text content place = record s { text = Some content }
put s Payload content place = s
put s Unknown content place = s

-- the content of a byte string is put where its key says
abbrev pub put_value : EnvelopeSays → Key → ℕ → DataItem → EnvelopeSays
put_value s key place (ByteString content) = put s key content (content_place place content)
put_value s key place _ = s

-- each pair puts its value
abbrev pub put_all : EnvelopeSays → List Entry → EnvelopeSays
put_all s [] = s
put_all s (e ∷ es) = put_all (put_value s (key_of e.key) e.value_place e.value) es

-- ---- the grammar

-- the key is that of a member or of an integrated payload
abbrev pub IsKnown : Entry → Type 0
IsKnown e = key_of e.key ≢ Unknown

abbrev pub is_number : ℕ → DataItem → Bool
is_number n (UnsignedInteger m) = m == n
is_number n _ = false

-- whether this number is a key
abbrev pub has_key : ℕ → List Entry → Bool
has_key n [] = false
has_key n (e ∷ es) = is_number n e.key || has_key n es

-- the value is a byte string, and under key 2 it holds the wrapper
abbrev pub IsValue : Entry → Type 0
IsValue e =
    IsByteString e.value
    ×
    (key_of e.key ≡ Wrapper
    → (digest : Digest) × SaysHeld IsWrapper e.value_place e.value digest)

-- the item is an envelope that says this: a map with known keys, the wrapper and the manifest among them, and
-- with values of the right form
pub record IsEnvelope (place : ℕ) (x : DataItem) (said : EnvelopeSays) : Type 0 where
  pub map : EnvelopeMap
  pub shape : envelope_map place x ≡ Some map
  pub known : AllByRecursion IsKnown (map_entries map)
  pub required : AllByRecursion (λ n. has_key n (map_entries map) ≡ true) (2 ∷ 3 ∷ [])
  pub values : AllByRecursion IsValue (map_entries map)
  pub says : said ≡ put_all (says_nothing map.tagged) (map_entries map)

-- ---- refusals: unknown keys first, then missing ones, and then values

pub data RefusesKey (e : Entry) : Refusal → Type 0 where
  OtherKey : key_of e.key ≡ Unknown → RefusesKey e (refused e.key_place UnknownKey)

pub data RefusesLack (place : ℕ) (es : List Entry) (n : ℕ) : Refusal → Type 0 where
  LacksKey : has_key n es ≡ false → RefusesLack place es n (refused place (Missing n))

pub data RefusesValue (e : Entry) : Refusal → Type 0 where
  NoBytes : (IsByteString e.value → ⊥) → RefusesValue e (refused e.value_place Shape)
  BadWrapper : (r : Refusal) → key_of e.key ≡ Wrapper
      → RefusesHeld RefusesWrapper e.value_place e.value r → RefusesValue e r

pub data RefusesEnvelope (place : ℕ) (x : DataItem) : Refusal → Type 0 where
  NoMap : envelope_map place x ≡ None → RefusesEnvelope place x (refused (untagged place x).1 Shape)
  BadKey : (m : EnvelopeMap) (r : Refusal) → envelope_map place x ≡ Some m
      → RefusesFirst RefusesKey IsKnown (map_entries m) r → RefusesEnvelope place x r
  Lacks : (m : EnvelopeMap) (r : Refusal) → envelope_map place x ≡ Some m
      → AllByRecursion IsKnown (map_entries m)
      → RefusesFirst (RefusesLack m.place (map_entries m)) (λ n. has_key n (map_entries m) ≡ true)
      (2 ∷ 3 ∷ []) r
      → RefusesEnvelope place x r
  BadValue : (m : EnvelopeMap) (r : Refusal) → envelope_map place x ≡ Some m
      → AllByRecursion IsKnown (map_entries m)
      → AllByRecursion (λ n. has_key n (map_entries m) ≡ true) (2 ∷ 3 ∷ [])
      → RefusesFirst RefusesValue IsValue (map_entries m) r → RefusesEnvelope place x r
