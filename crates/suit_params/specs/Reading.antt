-- How heads, strings and items are read at a position, with the refusals of manifests.
use Rattle.std.specs.Prelude.{ℕ, ◌+◌, ◌-◌, ◌==◌, nat_lt, if◌then◌else◌, Bool, List, length, take, drop, Result, Ok, Err}
use denote.Enum.Bare.{sameb}
use Rattle.det_cbor.specs.DataItem.{DataItem, spell}
use Rattle.det_cbor.specs.declared.head.Head.{Head}
use Rattle.det_cbor.specs.declared.head.HeadKind.{HeadKind}
use Rattle.det_cbor.specs.declared.head.HeadKind.TheVariants as kinds
use Rattle.det_cbor.specs.contracts.head.HeadKind.{the_type}
use Rattle.det_cbor.specs.declared.reason.Reason.{Reason}
use Rattle.det_cbor.specs.declared.reason.Reason.TheVariants.{Truncated}
use Rattle.det_cbor.specs.declared.reason.CborRefusal.{CborRefusal}
use Rattle.det_cbor.specs.HeadReading.{◌>>=◌, head_at, place_in}
use Rattle.det_cbor.specs.ItemReading.{Read, item_at}
use Rattle.det_cbor.specs.Position.{Position}
use Rattle.suit_params.specs.declared.refusal.Refusal.{Refusal}
use Rattle.suit_params.specs.declared.refusal.Why.{Why}
use Rattle.suit_params.specs.declared.refusal.Why.TheVariants.{Cbor, Trailing, Shape}
use Rattle.suit_params.specs.Refusing.{refused}

abbrev pub of_cbor : CborRefusal → Refusal
of_cbor e = refused e.place (Cbor e.reason)

-- the position at which this rest is left
abbrev pub resting : Position → List ℕ → Position
resting p rest = record { left = rest; place = p.place + (length p.left - length rest) }

abbrev pub found_head : Position → Result (Head × List ℕ) Reason → Result (Head × Position) Refusal
found_head p (Ok x) = Ok (x.0, resting p x.1)
found_head p (Err reason) = Err (refused (p.place + place_in p.left reason) (Cbor reason))

-- the next head, and the position after it
unfoldable pub head_from : Position → Result (Head × Position) Refusal
head_from p = found_head p (head_at p.left)

-- ---- heads of one kind

abbrev pub same_kind : HeadKind → HeadKind → Bool
same_kind found kind = sameb the_type found kind

abbrev pub kind_after : HeadKind → Why → ℕ → ℕ → Position → HeadKind → Result (ℕ × Position) Refusal
kind_after kind why place n p found =
    if same_kind found kind then Ok (n, p) else Err (refused place why)

-- the value of the next head, which must be of this kind, and the position after it
abbrev pub kind_from : HeadKind → Why → Position → Result (ℕ × Position) Refusal
kind_from kind why p = head_from p >>= λ h. kind_after kind why p.place h.0.value h.1 h.0.kind

-- ---- bytes and items

-- the next n bytes, and the position after them
unfoldable pub bytes_from : ℕ → Position → Result (List ℕ × Position) Refusal
bytes_from n p =
    if nat_lt (length p.left) n then Err (refused (p.place + length p.left) (Cbor Truncated))
    else Ok (take n p.left, record { left = drop n p.left; place = p.place + n })

abbrev pub found_item : Position → Read DataItem → Result (DataItem × Position) Refusal
found_item p (Ok x) = Ok (x.0, resting p x.1)
found_item p (Err s) = Err (refused (p.place + (length p.left - s.left)) (Cbor s.reason))

-- the next item, and the position after it
unfoldable pub item_from : Position → Result (DataItem × Position) Refusal
item_from p = found_item p (item_at 16 p.left)

-- the item at a position, on its own
abbrev pub inside : Position → DataItem → Position
inside p x = record { left = spell x; place = p.place }

-- the next item on its own, and the position after it
abbrev pub inner_from : Position → Result (Position × Position) Refusal
inner_from p = item_from p >>= λ x. Ok (inside p x.0, x.1)

-- the one item at a position, after which nothing is left
abbrev pub only_from : Position → Result Position Refusal
only_from p =
    inner_from p >>= λ x. if length x.1.left == 0 then Ok x.0 else Err (refused x.1.place Trailing)

-- ---- byte strings

-- the next n bytes, at their place
abbrev pub string_from : ℕ → Position → Result (Position × Position) Refusal
string_from n p = bytes_from n p >>= λ c. Ok (record { left = c.0; place = p.place }, c.1)

-- the content of the next item, a byte string, at the content's place
unfoldable pub content_from : Position → Result (Position × Position) Refusal
content_from p = kind_from kinds.Bytes Shape p >>= λ n. string_from n.0 n.1

-- ---- judging items

-- the next item, judged from its place on
abbrev pub next_judged : {A : Type 0} → (ℕ → DataItem → Result A Refusal) → Position
    → Result (A × Position) Refusal
next_judged judge p = item_from p >>= λ x. judge p.place x.0 >>= λ said. Ok (said, x.1)

-- bytes that must hold one item and nothing more
abbrev pub whole_judged : {A : Type 0} → (ℕ → DataItem → Result A Refusal) → ℕ → List ℕ
    → Result A Refusal
whole_judged judge place bytes =
    item_from (record { left = bytes; place = place })
    >>= λ x. if length x.1.left == 0 then judge place x.0 else Err (refused x.1.place Trailing)

-- ---- the number of parts of arrays and maps

-- the number of elements of an array, and the position of the first
unfoldable pub array_from : Position → Result (ℕ × Position) Refusal
array_from p = kind_from kinds.Array Shape p

-- the number of pairs of a map, and the position of the first
unfoldable pub map_from : Position → Result (ℕ × Position) Refusal
map_from p = kind_from kinds.Map Shape p
