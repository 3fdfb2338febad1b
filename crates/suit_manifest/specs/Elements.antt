-- The elements of an array: how each is judged at its place, and how they are read from an array that was
-- judged before.
use Rattle.std.specs.Prelude.{ℕ, zero, suc, List, [], ◌∷◌, Result, Ok, Err}
use Rattle.det_cbor.specs.DataItem.{DataItem, ArrayOf, MapOf, DataItems, NoItems, ItemThen, DataPairs}
use Rattle.det_cbor.specs.HeadReading.{◌>>=◌}
use Rattle.det_cbor.specs.Position.{Position}
use Rattle.suit_params.specs.declared.refusal.Refusal.{Refusal}
use Rattle.suit_params.specs.declared.refusal.Why.TheVariants.{Shape}
use Rattle.suit_params.specs.Refusing.{refused}
use Rattle.suit_params.specs.Reading.{inner_from, only_from, content_from}
use Rattle.suit_commands.specs.Sequences.{place_after}

abbrev pub judge_all : {A : Type 0} → (ℕ → DataItem → Result A Refusal) → ℕ → DataItems
    → Result (List A) Refusal
judge_all judge place NoItems = Ok []
judge_all judge place (ItemThen x others) =
    judge place x >>= λ a. judge_all judge (place_after place x) others >>= λ rest. Ok (a ∷ rest)

-- an array is judged by its elements
abbrev pub judge_array : {A : Type 0} → (ℕ → DataItems → Result A Refusal) → ℕ → DataItem
    → Result A Refusal
judge_array inner place (ArrayOf items) = inner place items
judge_array inner place _ = Err (refused place Shape)

-- a map is judged by its pairs
abbrev pub judge_map : {A : Type 0} → (ℕ → DataPairs → Result A Refusal) → ℕ → DataItem
    → Result A Refusal
judge_map inner place (MapOf pairs) = inner place pairs
judge_map inner place _ = Err (refused place Shape)

-- ---- reading

-- the next n elements, each a whole item
abbrev pub all_from : {A : Type 0} → (Position → Result A Refusal) → ℕ → Position
    → Result (List A) Refusal
all_from read zero p = Ok []
all_from read (suc n) p =
    inner_from p >>= λ x. read x.0 >>= λ a. all_from read n x.1 >>= λ rest. Ok (a ∷ rest)

-- the content of a byte string, given a reader of the whole content
abbrev pub held_at : {A : Type 0} → (Position → Result A Refusal) → Position → Result A Refusal
held_at read p = content_from p >>= λ c. read c.0

-- the one item that a content holds
abbrev pub only_at : {A : Type 0} → (Position → Result A Refusal) → Position → Result A Refusal
only_at read p = only_from p >>= read
