-- A wrapper in parts: the digest that it states, and its blocks.
use Rattle.std.specs.Prelude.{ℕ, ◌-◌, zero, suc, List, [], ◌∷◌, Result, Ok, Err}
use Rattle.det_cbor.specs.declared.head.Head.{Head}
use Rattle.det_cbor.specs.DataItem.{DataItem, ByteString, ArrayOf, DataItems, NoItems, ItemThen, spell, IsValid, Spells}
use Rattle.det_cbor.specs.HeadReading.{◌>>=◌}
use Rattle.det_cbor.specs.Position.{Position}
use Rattle.suit_params.specs.declared.digest.Digest.{Digest}
use Rattle.suit_params.specs.declared.refusal.Refusal.{Refusal}
use Rattle.suit_params.specs.DigestBytes.{IsLong}
use Rattle.suit_params.specs.Digests.{digest_item}
use Rattle.suit_params.specs.Reading.{head_from, only_from, content_from}
use Rattle.suit_envelope.specs.WrapperReading.{wrapper_at}

-- each block as a byte string
abbrev pub strings_of : List (List ℕ) → DataItems
strings_of [] = NoItems
strings_of (block ∷ blocks) = ItemThen (ByteString block) (strings_of blocks)

-- an array of the digest in a byte string, and then the blocks (draft-ietf-suit-manifest-25, section 8.3)
abbrev pub wrapper_item : Digest → List (List ℕ) → DataItem
wrapper_item digest blocks =
    ArrayOf (ItemThen (ByteString (spell (digest_item digest))) (strings_of blocks))

-- these bytes are a valid wrapper with this digest and these blocks
pub record WrapperSays (wrapper : List ℕ) (digest : Digest) (blocks : List (List ℕ)) : Type 0 where
  pub spells : Spells (wrapper_item digest blocks) wrapper
  pub digest_valid : IsValid (digest_item digest)
  pub long : IsLong digest

-- these bytes are a valid wrapper
abbrev pub HasWrapper : List ℕ → Type 0
HasWrapper wrapper =
    (digest : Digest) × (blocks : List (List ℕ)) × WrapperSays wrapper digest blocks

-- ---- how the parts are read

abbrev pub start_of : List ℕ → Position
start_of wrapper = record { left = wrapper; place = 0 }

-- the digest that the wrapper states
abbrev pub digest_from : List ℕ → Result Digest Refusal
digest_from wrapper = only_from (start_of wrapper) >>= λ item. wrapper_at item

abbrev pub count_after : Result (Head × Position) Refusal → ℕ
count_after (Ok h) = h.0.value - 1
count_after (Err r) = 0

-- the number of blocks
abbrev pub count_from : List ℕ → ℕ
count_from wrapper = count_after (head_from (start_of wrapper))

-- the position after the next n byte strings
abbrev pub passed_from : ℕ → Position → Result Position Refusal
passed_from zero p = Ok p
passed_from (suc n) p = content_from p >>= λ c. passed_from n c.1

-- the content of block n
abbrev pub block_from : ℕ → List ℕ → Result Position Refusal
block_from n wrapper =
    head_from (start_of wrapper) >>= λ h. content_from h.1 >>= λ digest. passed_from n digest.1
    >>= λ p. content_from p >>= λ c. Ok c.0
