-- Matches, and lists of them. No definition says how they are found.
use Rattle.std.specs.Prelude.{◌≡◌, ◌↔◌, ℕ, Bool, true, false, List, [], ◌∷◌, Option, Some, None}
use Rattle.suit_params.specs.declared.digest.Digest.{Digest}
use Rattle.path_model.specs.declared.event.Event.{Event}
use Rattle.path_model.specs.declared.event.Event.TheVariants.{Matched, Invoked}
use Rattle.path_checker.specs.declared.judge_plan.matches.Lent.{Lent}
use Rattle.path_checker.specs.declared.judge_plan.matches.Match.{Match as LentMatch}
use Rattle.path_checker.specs.declared.judge_plan.stated.Stated.{Stated}
use Rattle.path_checker.specs.Exploring.{In}

-- a digest, and a size if there is one
abbrev pub Match : Type 0
Match = Digest × Option ℕ

abbrev pub stated_by : Stated → Match
stated_by stated = (stated.digest.now, stated.size)

-- what is stated where this digest and this size are in force: nothing if there is no digest
abbrev pub IsStated : Option Digest → Option ℕ → Option Stated → Type 0
IsStated digest size None = None ≡ digest
IsStated digest size (Some stated) =
    (Some (stated_by stated).0 ≡ digest) × ((stated_by stated).1 ≡ size)

-- a number, if there is one
abbrev pub number_if : Bool → ℕ → Option ℕ
number_if true number = Some number
number_if false number = None

abbrev pub match_of : LentMatch → Match
match_of lent = (lent.digest.now, number_if lent.has_size lent.number)

abbrev pub all_lent : List Lent → List Match
all_lent [] = []
all_lent (lent ∷ rest) = match_of lent.own.now ∷ all_lent rest

abbrev pub matches_from : Option (List Match) → List Match
matches_from None = []
matches_from (Some held) = held

-- the event that a component matched so
abbrev pub match_event : ℕ → Match → Event
match_event component one = Matched component one.0 one.1

-- the event of an invoke of a component that it covers
abbrev pub covered_event : ℕ → Match → Event
covered_event component one = Invoked component (Some one.0) one.1 true

-- both have the same members, in any order
abbrev pub SameMembers : List Match → List Match → Type 0
SameMembers some others = (one : Match) → In one some ↔ In one others
