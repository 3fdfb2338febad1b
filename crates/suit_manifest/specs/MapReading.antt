-- How maps whose keys are numbers are judged, and how they are read from an item that was judged before.
use Rattle.std.specs.Prelude.{ℕ, ◌-◌, ◌==◌, if◌then◌else◌, Bool, false, List, length, Option, Some, None, Result, Ok, Err}
use Rattle.std.specs.List.{list_any}
use Rattle.det_cbor.specs.DataItem.{DataItem, UnsignedInteger, DataPairs, spell}
use Rattle.det_cbor.specs.declared.head.HeadKind.{HeadKind}
use Rattle.det_cbor.specs.declared.head.HeadKind.TheVariants as kinds
use Rattle.det_cbor.specs.HeadReading.{◌>>=◌}
use Rattle.det_cbor.specs.Position.{Position}
use Rattle.suit_params.specs.declared.refusal.Refusal.{Refusal}
use Rattle.suit_params.specs.declared.refusal.Why.TheVariants.{UnknownKey, Missing}
use Rattle.suit_params.specs.Refusing.{refused}
use Rattle.suit_params.specs.Judging.{judge_each}
use Rattle.suit_params.specs.Reading.{head_from, bytes_from, inner_from, string_from}
use Rattle.suit_envelope.specs.Envelopes.{Entry}
use Rattle.suit_manifest.specs.Maps.{entries_of}
use Rattle.suit_manifest.specs.declared.pairs.Pairs.{Pairs}

-- ---- judging

abbrev pub among : ℕ → List ℕ → Bool
among n keys = list_any (λ k. k == n) keys

-- a key at this place must be one of these numbers
abbrev pub known_number : List ℕ → ℕ → ℕ → Result ℕ Refusal
known_number keys place n = if among n keys then Ok n else Err (refused place UnknownKey)

abbrev pub judge_key : List ℕ → ℕ → DataItem → Result ℕ Refusal
judge_key keys place (UnsignedInteger n) = known_number keys place n
judge_key keys place _ = Err (refused place UnknownKey)

abbrev pub judge_entry : List ℕ → Entry → Result Unit Refusal
judge_entry keys e = judge_key keys e.key_place e.key >>= λ _. Ok tt

-- the value under a required number, in a map at this place
abbrev pub needed : {A : Type 0} → ℕ → ℕ → Option A → Result A Refusal
needed place n None = Err (refused place (Missing n))
needed place n (Some found) = Ok found

abbrev pub judge_at : {A : Type 0} → (ℕ → DataItem → Result A Refusal) → Entry → Result A Refusal
judge_at judge e = judge e.value_place e.value

-- the value under an optional number
abbrev pub may : {A B : Type 0} → (A → Result B Refusal) → Option A → Result (Option B) Refusal
may judge None = Ok None
may judge (Some found) = judge found >>= λ said. Ok (Some said)

-- the pairs of a map: first all keys, and then the values under them
abbrev pub judge_keyed : {A : Type 0} → List ℕ → (ℕ → List Entry → Result A Refusal) → ℕ
    → DataPairs → Result A Refusal
judge_keyed keys values place pairs =
    judge_each (judge_entry keys) (entries_of place pairs)
    >>= λ _. values place (entries_of place pairs)

-- ---- reading the pairs of a map that are left

abbrev pub key_after : ℕ → ℕ → Position → HeadKind → Result (Bool × Position) Refusal
key_after n m p kinds.Unsigned = Ok (m == n, p)
key_after n m p _ = Ok (false, p)

-- whether the next key is this number, and the position after its head
unfoldable pub key_is : ℕ → Position → Result (Bool × Position) Refusal
key_is n p = head_from p >>= λ h. key_after n h.0.value h.1 h.0.kind

-- the bytes from one position up to another
abbrev pub up_to : Position → Position → Result (Position × Position) Refusal
up_to p q = string_from (length p.left - length q.left) p

-- The next value of a map that was judged before. Of a number or a string, only the head is read.
abbrev pub value_after : Position → ℕ → Position → HeadKind → Result (Position × Position) Refusal
value_after p n q kinds.Unsigned = up_to p q
value_after p n q kinds.Bytes = bytes_from n q >>= λ b. up_to p b.1
value_after p n q kinds.Text = bytes_from n q >>= λ b. up_to p b.1
value_after p n q _ = inner_from p

unfoldable pub value_from : Position → Result (Position × Position) Refusal
value_from p = head_from p >>= λ h. value_after p h.0.value h.1 h.0.kind

-- the value of the next pair, read after its key
abbrev pub value_then : ℕ → Position → Result (Option Position × Pairs) Refusal
value_then left p = value_from p >>= λ v. Ok (Some v.0, record { map = v.1; left = left - 1 })

-- the value of the next pair if its key is this number, and the pairs that are left then
abbrev pub take_from : ℕ → Pairs → Result (Option Position × Pairs) Refusal
take_from n s =
    if s.left == 0 then Ok (None, s)
    else (key_is n s.map >>= λ k. if k.0 then value_then s.left k.1 else Ok (None, s))

-- no pair is left; the key of one that is left is unknown
abbrev pub end_from : Pairs → Result Unit Refusal
end_from s = if s.left == 0 then Ok tt else Err (refused s.map.place UnknownKey)

-- the position of an entry's value on its own
abbrev pub value_of : Entry → Position
value_of e = record { left = spell e.value; place = e.value_place }
