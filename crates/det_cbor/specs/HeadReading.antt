-- How a head is read.
use Rattle.std.specs.Prelude.{ℕ, ◌/◌, ◌%◌, ◌^◌, ◌==◌, nat_lt, if◌then◌else◌, List, [], ◌∷◌, length, take, drop, Result, Ok, Err}
use Rattle.std.specs.Int.{Width, w8, w16, w32, w64, byte_len, from_be_bytes}
use Rattle.det_cbor.specs.declared.head.Head.{Head}
use Rattle.det_cbor.specs.declared.head.HeadKind.{HeadKind}
use Rattle.det_cbor.specs.declared.head.HeadKind.TheVariants as kinds
use Rattle.det_cbor.specs.declared.reason.Reason.{Reason}
use Rattle.det_cbor.specs.declared.reason.Reason.TheVariants.{Truncated, Indefinite, Kind, NotShortest}

infixl 10 ◌>>=◌
-- goes on with the value, or stops at the fault
abbrev pub ◌>>=◌ : {A B E : Type 0} → Result A E → (A → Result B E) → Result B E
(Ok x) >>= f = f x
(Err e) >>= f = Err e

abbrev pub map_ok : {A B E : Type 0} → (A → B) → Result A E → Result B E
map_ok f (Ok x) = Ok (f x)
map_ok f (Err e) = Err e

-- the kind of a major type below 7
abbrev pub kind_of_major : ℕ → HeadKind
kind_of_major major =
    if major == 0 then kinds.Unsigned
    else if major == 1 then kinds.Negative
    else if major == 2 then kinds.Bytes
    else if major == 3 then kinds.Text
    else if major == 4 then kinds.Array
    else if major == 5 then kinds.Map
    else kinds.Tag

-- a number that needs its width, which is at least `least`, and the bytes after it
abbrev pub shortest_from : ℕ → ℕ → List ℕ → Result (ℕ × List ℕ) Reason
shortest_from least number rest = if nat_lt number least then Err NotShortest else Ok (number, rest)

-- a big-endian number of this width, which is at least `least`, and the bytes after it
abbrev pub number_at : Width → ℕ → List ℕ → Result (ℕ × List ℕ) Reason
number_at w least bytes =
    if nat_lt (length bytes) (byte_len w) then Err Truncated
    else shortest_from least (from_be_bytes w (take (byte_len w) bytes)) (drop (byte_len w) bytes)

-- the argument that the lower five bits of a first byte and the bytes after it give
unfoldable pub argument_at : ℕ → List ℕ → Result (ℕ × List ℕ) Reason
argument_at low bytes =
    if nat_lt low 24 then Ok (low, bytes)
    else if low == 24 then number_at w8 24 bytes
    else if low == 25 then number_at w16 (2 ^ 8) bytes
    else if low == 26 then number_at w32 (2 ^ 16) bytes
    else if low == 27 then number_at w64 (2 ^ 32) bytes
    else if low == 31 then Err Indefinite
    else Err Kind

-- major type 7: false, true and null
abbrev pub simple_value : ℕ → Result Head Reason
simple_value low =
    if low == 20 then Ok (record { kind = kinds.Bool; value = 0 })
    else if low == 21 then Ok (record { kind = kinds.Bool; value = 1 })
    else if low == 22 then Ok (record { kind = kinds.Null; value = 0 })
    else if low == 31 then Err Indefinite
    else Err Kind

-- the next head, and the bytes after it
unfoldable pub head_at : List ℕ → Result (Head × List ℕ) Reason
head_at [] = Err Truncated
head_at (first ∷ rest) =
    if first / 32 == 7 then (simple_value (first % 32) >>= λ h. Ok (h, rest))
    else
    (argument_at (first % 32) rest
    >>= λ x. Ok (record { kind = kind_of_major (first / 32); value = x.0 }, x.1))

-- where the fault of a head or a string is: at the end of the input if it is truncated, otherwise at the head
abbrev pub place_in : List ℕ → Reason → ℕ
place_in bytes Truncated = length bytes
place_in bytes _ = 0
