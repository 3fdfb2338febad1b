-- The position of a cursor, and what its calls take.
use Rattle.std.specs.Prelude.{◌≡◌, ℕ, ◌+◌, ◌-◌, List, ◌++◌, length, take, drop, Option, Some, None, option_and_then, nat_lt, if◌then◌else◌}
use Rattle.std.specs.Result.{result_ok}
use Rattle.det_cbor.specs.declared.head.Head.{Head}
use Rattle.det_cbor.specs.declared.reason.Reason.{Reason}
use Rattle.det_cbor.specs.declared.reason.CborRefusal.{CborRefusal}
use Rattle.det_cbor.specs.HeadSpelling.{spelled, BeginsWith}
use Rattle.det_cbor.specs.HeadReading.{head_at}
use Rattle.det_cbor.specs.ItemSkipping.{item_split}

-- the bytes that are left, and the place of the first one
pub record Position : Type 0 where
  pub left : List ℕ
  pub place : ℕ

-- these bytes were taken between the old and the new position
pub record Takes (old new : Position) (taken : List ℕ) : Type 0 where
  pub parts : old.left ≡ taken ++ new.left
  pub place : new.place ≡ old.place + length taken

-- this head was read between the old and the new position
pub record Reads (old new : Position) (h : Head) : Type 0 where
  pub begins : BeginsWith old.left h new.left
  pub place : new.place ≡ old.place + length (spelled h)

-- the refusal `at` bytes after the position
abbrev pub refusal_at : Position → ℕ → Reason → CborRefusal
refusal_at p at reason = record { place = p.place + at; reason = reason }

-- the refusal is a fault of the bytes left, at its place counted from the position
pub record IsRefusal (p : Position) (Fault : List ℕ → ℕ → Reason → Type 0) (e : CborRefusal)
    : Type 0 where
  pub at : ℕ
  pub fault : Fault p.left at e.reason
  pub place : e.place ≡ p.place + at

-- the next head and the position after it, if there is a head
abbrev pub next_head : Position → Option (Head × Position)
next_head p =
    option_and_then
    (λ x. Some (x.0, record { left = x.1; place = p.place + (length p.left - length x.1) }))
    (result_ok (head_at p.left))

-- the next n bytes and the position after them, if that many are left
abbrev pub next_bytes : ℕ → Position → Option (List ℕ × Position)
next_bytes n p =
    if nat_lt (length p.left) n then None
    else Some (take n p.left, record { left = drop n p.left; place = p.place + n })

-- the bytes of the next item and the position after it, if there is one
abbrev pub next_item : Position → Option (List ℕ × Position)
next_item p =
    option_and_then (λ f. Some (f.0, record { left = f.1; place = p.place + length f.0 }))
    (result_ok (item_split p.left))
