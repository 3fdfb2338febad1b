-- Maps whose keys are numbers from a table: what they say, and how they are refused.
use Rattle.std.specs.Prelude.{◌≡◌, ℕ, true, List, [], ◌∷◌, Option, Some, None, if◌then◌else◌}
use Rattle.std.specs.List.{AllByRecursion}
use Rattle.det_cbor.specs.DataItem.{DataItem, UnsignedInteger, MapOf, DataPairs}
use Rattle.suit_params.specs.declared.refusal.Refusal.{Refusal}
use Rattle.suit_params.specs.declared.refusal.Why.TheVariants.{Shape, UnknownKey}
use Rattle.suit_params.specs.Refusing.{refused, Says, Refuses, RefusesFirst}
use Rattle.suit_params.specs.Params.{pairs_place, IsMap}
use Rattle.suit_commands.specs.Selections.{Among}
use Rattle.suit_envelope.specs.Envelopes.{Entry, entries, is_number, has_key, RefusesLack}

-- the entries of a map's pairs
abbrev pub entries_of : ℕ → DataPairs → List Entry
entries_of place pairs = entries (pairs_place place pairs) pairs

-- the key is one of these numbers
abbrev pub IsKeyAmong : List ℕ → Entry → Type 0
IsKeyAmong keys e = (n : ℕ) × Among n keys × (e.key ≡ UnsignedInteger n)

-- the entry under this number, if there is one
abbrev pub entry_under : ℕ → List Entry → Option Entry
entry_under n [] = None
entry_under n (e ∷ es) = if is_number n e.key then Some e else entry_under n es

-- a map with only these keys, and with all the required ones
pub record HasKeys (keys required : List ℕ) (place : ℕ) (x : DataItem) : Type 0 where
  pub pairs : DataPairs
  pub is : x ≡ MapOf pairs
  pub known : AllByRecursion (IsKeyAmong keys) (entries_of place pairs)
  pub complete : AllByRecursion (λ n. has_key n (entries_of place pairs) ≡ true) required

-- the value under this number says this
pub record SaysUnder {A : Type 0} (n : ℕ) (form : Says A) (es : List Entry) (said : A)
    : Type 0 where
  pub entry : Entry
  pub there : entry_under n es ≡ Some entry
  pub says_so : form entry.value_place entry.value said

-- the same for an optional number
abbrev pub MaySayUnder : {A : Type 0} → ℕ → Says A → List Entry → Option A → Type 0
MaySayUnder n form es None = entry_under n es ≡ None
MaySayUnder n form es (Some said) = SaysUnder n form es said

-- the value under this number has this refusal
pub record RefusesUnder (n : ℕ) (bad : Refuses) (es : List Entry) (r : Refusal) : Type 0 where
  pub entry : Entry
  pub there : entry_under n es ≡ Some entry
  pub refuses : bad entry.value_place entry.value r

-- ---- refusals: unknown keys first, then missing ones, and then the values in their order, which is that of
-- the numbers of their keys, since keys ascend in a map

pub data RefusesOtherKey (keys : List ℕ) (e : Entry) : Refusal → Type 0 where
  OtherKey : (IsKeyAmong keys e → ⊥) → RefusesOtherKey keys e (refused e.key_place UnknownKey)

pub data RefusesMap (keys required : List ℕ) (values : List Entry → Refusal → Type 0) (place : ℕ)
    : DataItem → Refusal → Type 0 where
  NoMap : (x : DataItem) → (IsMap x → ⊥)
      → RefusesMap keys required values place x (refused place Shape)
  BadKey : (pairs : DataPairs) (r : Refusal)
      → RefusesFirst (RefusesOtherKey keys) (IsKeyAmong keys) (entries_of place pairs) r
      → RefusesMap keys required values place (MapOf pairs) r
  LacksKey : (pairs : DataPairs) (r : Refusal)
      → AllByRecursion (IsKeyAmong keys) (entries_of place pairs)
      → RefusesFirst (RefusesLack place (entries_of place pairs))
      (λ n. has_key n (entries_of place pairs) ≡ true) required r
      → RefusesMap keys required values place (MapOf pairs) r
  BadValue : (pairs : DataPairs) (r : Refusal)
      → AllByRecursion (IsKeyAmong keys) (entries_of place pairs)
      → AllByRecursion (λ n. has_key n (entries_of place pairs) ≡ true) required
      → values (entries_of place pairs) r → RefusesMap keys required values place (MapOf pairs) r
