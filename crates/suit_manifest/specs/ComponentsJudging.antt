-- How the identifiers of components are judged, case by case: what they say, or the first refusal.
use Rattle.std.specs.Prelude.{ℕ, zero, suc, ◌==◌, nat_lt, if◌then◌else◌, ◌&&◌, Bool, true, false, List, [], ◌∷◌, length, get_or, Option, Some, None, Result, Ok, Err}
use Rattle.std.specs.Str.{bytes_eq}
use Rattle.det_cbor.specs.DataItem.{DataItem, ArrayOf, DataItems, NoItems, ItemThen, item_count, spell}
use Rattle.det_cbor.specs.HeadReading.{◌>>=◌}
use Rattle.suit_params.specs.declared.refusal.Refusal.{Refusal}
use Rattle.suit_params.specs.declared.refusal.Why.TheVariants.{Shape, TooMany, LongIdentifier, TwoAlike}
use Rattle.suit_params.specs.Refusing.{refused}
use Rattle.suit_params.specs.Judging.{judge_string}
use Rattle.suit_commands.specs.Sequences.{elements_place, place_after}
use Rattle.suit_manifest.specs.Elements.{judge_all, judge_array}

abbrev pub judge_part : ℕ → DataItem → Result (List ℕ) Refusal
judge_part place x = judge_string place x >>= λ content. Ok content.left

-- an identifier whose spelling has `size` bytes
abbrev pub short_enough : ℕ → ℕ → List (List ℕ) → Result (List (List ℕ)) Refusal
short_enough place size id = if nat_lt 64 size then Err (refused place LongIdentifier) else Ok id

abbrev pub judge_parts : ℕ → DataItems → Result (List (List ℕ)) Refusal
judge_parts place items =
    judge_all judge_part (elements_place place items) items
    >>= short_enough place (length (spell (ArrayOf items)))

abbrev pub judge_identifier : ℕ → DataItem → Result (List (List ℕ)) Refusal
judge_identifier = judge_array judge_parts

-- ---- equal identifiers

-- the first of n numbers from i on that passes the test
abbrev pub least : (ℕ → Bool) → ℕ → ℕ → Option ℕ
least test zero i = None
least test (suc n) i = if test i then Some i else least test n (suc i)

abbrev pub same_id : List (List ℕ) → List (List ℕ) → Bool
same_id [] [] = true
same_id [] (b ∷ others) = false
same_id (a ∷ rest) [] = false
same_id (a ∷ rest) (b ∷ others) = bytes_eq a b && same_id rest others

abbrev pub are_like : List (List (List ℕ)) → ℕ → ℕ → Bool
are_like ids last i = same_id (get_or ids i []) (get_or ids last [])

-- the first identifier before another one that equals it
abbrev pub first_like : List (List (List ℕ)) → ℕ → Option ℕ
first_like ids last = least (are_like ids last) last 0

-- an identifier at this place that equals identifier i is refused
abbrev pub judge_like : ℕ → ℕ → Option ℕ → Result Unit Refusal
judge_like place last None = Ok tt
judge_like place last (Some i) = Err (refused place (TwoAlike i last))

-- the identifiers from this one on
abbrev pub judge_apart : List (List (List ℕ)) → ℕ → ℕ → DataItems → Result Unit Refusal
judge_apart ids last place NoItems = Ok tt
judge_apart ids last place (ItemThen x others) =
    judge_like place last (first_like ids last)
    >>= λ _. judge_apart ids (suc last) (place_after place x) others

-- ---- the array

abbrev pub judge_ids : ℕ → DataItems → Result (List (List (List ℕ))) Refusal
judge_ids place items =
    judge_all judge_identifier place items >>= λ ids. judge_apart ids 0 place items >>= λ _. Ok ids

-- the number of identifiers is judged first
abbrev pub judge_count : ℕ → DataItems → Result (List (List (List ℕ))) Refusal
judge_count place items =
    if item_count items == 0 then Err (refused place Shape)
    else if nat_lt 8 (item_count items) then Err (refused place (TooMany (item_count items)))
    else judge_ids (elements_place place items) items

abbrev pub judge_components : ℕ → DataItem → Result (List (List (List ℕ))) Refusal
judge_components = judge_array judge_count
