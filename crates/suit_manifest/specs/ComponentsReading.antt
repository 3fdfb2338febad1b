-- How the identifiers of components are read, from an item that was judged before.
use Rattle.std.specs.Prelude.{ℕ, zero, suc, ◌-◌, ◌==◌, nat_lt, if◌then◌else◌, List, length, Result, Ok, Err}
use Rattle.det_cbor.specs.HeadReading.{◌>>=◌}
use Rattle.det_cbor.specs.Position.{Position}
use Rattle.suit_params.specs.declared.refusal.Refusal.{Refusal}
use Rattle.suit_params.specs.declared.refusal.Why.TheVariants.{Shape, TooMany}
use Rattle.suit_params.specs.Refusing.{refused}
use Rattle.suit_params.specs.Reading.{inner_from, content_from, array_from}
use Rattle.suit_manifest.specs.Elements.{all_from}
use Rattle.suit_manifest.specs.ComponentsJudging.{short_enough, first_like, judge_like}

abbrev pub part_at : Position → Result (List ℕ) Refusal
part_at p = content_from p >>= λ c. Ok c.0.left

-- a whole item, read as an identifier
abbrev pub identifier_at : Position → Result (List (List ℕ)) Refusal
identifier_at p =
    array_from p >>= λ h. all_from part_at h.0 h.1 >>= short_enough p.place (length p.left)

-- The n identifiers after one. The place of each is found by skipping the one before it.
abbrev pub apart_from : List (List (List ℕ)) → ℕ → ℕ → Position → Result Unit Refusal
apart_from ids last zero p = Ok tt
apart_from ids last (suc n) p =
    inner_from p >>= λ x. judge_like x.1.place last (first_like ids last)
    >>= λ _. apart_from ids (suc last) n x.1

-- the first identifier has none before it
abbrev pub ids_from : ℕ → Position → Result (List (List (List ℕ))) Refusal
ids_from n p = all_from identifier_at n p >>= λ ids. apart_from ids 1 (n - 1) p >>= λ _. Ok ids

abbrev pub counted_ids : ℕ → ℕ → Position → Result (List (List (List ℕ))) Refusal
counted_ids place n p =
    if n == 0 then Err (refused place Shape) else if nat_lt 8 n then Err (refused place (TooMany n))
    else ids_from n p

-- a whole item, read as identifiers
abbrev pub components_at : Position → Result (List (List (List ℕ))) Refusal
components_at p = array_from p >>= λ h. counted_ids p.place h.0 h.1
