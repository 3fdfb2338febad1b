-- The order of payloads in an envelope's map: bytewise, by the spellings of their keys (RFC 8949, section
-- 4.2.1).
use Rattle.std.specs.Prelude.{◌≡◌, ◌<◌, ◌≤◌, ℕ, List, [], ◌∷◌, length, Option, Some, None, Result, Ok, Err}
use Rattle.std.specs.List.{insert, slice_set}
use Rattle.std.specs.declared.cmp.Ordering.{Ordering}
use Rattle.std.specs.Ordering.{nat_cmp, match_ordering}
use Rattle.std.specs.Cmp.Lexicographic.{slice_cmp}
use Rattle.det_cbor.specs.DataItem.{TextString, spell, IsAbove}

-- the order of two keys by their spellings
abbrev pub key_order : List ℕ → List ℕ → Ordering
key_order a b = slice_cmp nat_cmp (spell (TextString a)) (spell (TextString b))

-- the list with this payload put at its place, instead of one with the same key
abbrev pub put_payload : List ℕ × List ℕ → List (List ℕ × List ℕ) → List (List ℕ × List ℕ)
put_payload p [] = p ∷ []
put_payload p (q ∷ qs) = match_ordering (key_order p.0 q.0) (p ∷ q ∷ qs) (p ∷ qs) (q ∷ put_payload p qs)

-- the index of a key, or else the index to insert it at
abbrev pub IsPlaceOf : List (List ℕ × List ℕ) → List ℕ → Result ℕ ℕ → Type 0
IsPlaceOf list key (Ok i) = (i < length list) × ((payload : List ℕ) → slice_set list i (key, payload) ≡ put_payload (key, payload) list)
IsPlaceOf list key (Err i) = (i ≤ length list) × ((payload : List ℕ) → insert list i (key, payload) ≡ put_payload (key, payload) list)

-- each key is above the one before it, in the order of their spellings
abbrev pub AreAscending : Option (List ℕ) → List (List ℕ × List ℕ) → Type 0
AreAscending before [] = Unit {0}
AreAscending before (p ∷ ps) =
    IsAbove before (spell (TextString p.0)) × AreAscending (Some (spell (TextString p.0))) ps

-- payloads whose keys ascend still do once another payload is put among them
abbrev pub PayloadOrderLaw : Type 0
PayloadOrderLaw = (p : List ℕ × List ℕ) (list : List (List ℕ × List ℕ)) → AreAscending None list → AreAscending None (put_payload p list)
