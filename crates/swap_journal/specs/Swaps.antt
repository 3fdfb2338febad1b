-- A swap of the contents of two slots: the page that records it, and what an image holds of both contents.
use Rattle.std.specs.Prelude.{◌≡◌, ◌≢◌, ◌⊎◌, ◌<◌, ◌≤◌, ◌^◌, ◌+◌, ℕ, List, [], ◌∷◌, ◌++◌, Contains, MatchOption, Option, length, replicate, slice_range}
use Rattle.std.specs.Int.{w64, from_be_bytes}
use Rattle.suit_edge.specs.Flash.{Flash, Now}
use Rattle.suit_edge.specs.Gate.{IsOpen}
use Rattle.suit_edge.specs.Ranges.{Range}
use Rattle.flash_layout.specs.declared.slot.Slot.{Slot}
use Rattle.flash_layout.specs.declared.frame.TheConstants.{LENGTH_SIZE}
use Rattle.flash_layout.specs.ConfigPage.{number_bytes}
use Rattle.flash_layout.specs.Layouts.{AreClear}
use Rattle.flash_layout.specs.PageReading.{number_at}
use Rattle.flash_layout.specs.Slots.{LiesWithin, extent_of, slot_content}
use Rattle.swap_journal.specs.declared.contents.Exchange.{Exchange}
use Rattle.swap_journal.specs.declared.swap.Journal.{Journal}
use Rattle.swap_journal.specs.declared.swap.Swap.{Swap}
use Rattle.swap_journal.specs.Exchanges.{first_recovered, second_recovered}
use Rattle.swap_journal.specs.Progress.{RecoversNow, progress_at}

-- the bytes that are exchanged
abbrev pub exchange_of : Journal → Swap → Exchange
exchange_of journal swap = record {
  first = swap.first.start + LENGTH_SIZE;
  second = swap.second.start + LENGTH_SIZE;
  scratch = journal.scratch;
  first_length = swap.first_length;
  second_length = swap.second_length;
}

-- ---- places

-- the slot shares no byte with the page and the scratch, and is inside a disk of this size
pub record IsPlaced (journal : Journal) (size : ℕ) (slot : Slot) : Type 0 where
  pub page : AreClear slot.start (extent_of slot) journal.page 89
  pub scratch : AreClear slot.start (extent_of slot) journal.scratch 4096
  pub within : LiesWithin size slot

-- both slots are so placed, and share no byte with each other; nor does the page with the scratch
pub record ArePlaced (journal : Journal) (size : ℕ) (one other : Slot) : Type 0 where
  pub first : IsPlaced journal size one
  pub second : IsPlaced journal size other
  pub slots : AreClear one.start (extent_of one) other.start (extent_of other)

-- the page and the scratch share no byte, and are inside a disk of this size
pub record IsJournal (journal : Journal) (size : ℕ) : Type 0 where
  pub apart : AreClear journal.page 89 journal.scratch 4096
  pub page : journal.page + 89 ≤ size
  pub scratch : journal.scratch + 4096 ≤ size

-- both contents fit into each of the slots
pub record HasRoom (swap : Swap) : Type 0 where
  pub first_length : (swap.first_length ≤ swap.first.capacity) × (swap.first_length ≤ swap.second.capacity)
  pub second_length : (swap.second_length ≤ swap.first.capacity) × (swap.second_length ≤ swap.second.capacity)

-- all slots of a list are so placed, and share no byte with each other
pub record ArePlacedAll (journal : Journal) (size : ℕ) (slots : List Slot) : Type 0 where
  pub each : (slot : Slot) → Contains slots slot → IsPlaced journal size slot
  pub apart : (one other : Slot) → Contains slots one → Contains slots other → one ≢ other
      → AreClear one.start (extent_of one) other.start (extent_of other)

-- what a swap writes to
abbrev pub touched : Journal → Slot → Slot → List Range
touched journal first second =
    record { place = first.start; size = extent_of first }
    ∷ record { place = second.start; size = extent_of second }
    ∷ record { place = journal.page; size = 89 } ∷ record { place = journal.scratch; size = 4096 }
    ∷ []

-- the swap is between two distinct slots of the list, and both contents fit into each of them
pub record IsAmong (slots : List Slot) (swap : Swap) : Type 0 where
  pub first : Contains slots swap.first
  pub second : Contains slots swap.second
  pub distinct : swap.first ≢ swap.second
  pub room : HasRoom swap

-- ---- the page

-- the start and the capacity of a slot
abbrev pub slot_field : Slot → List ℕ
slot_field slot = number_bytes slot.start ++ number_bytes slot.capacity

-- the lengths of both contents
abbrev pub lengths_field : Swap → List ℕ
lengths_field swap = number_bytes swap.first_length ++ number_bytes swap.second_length

unfoldable pub swap_fields : Swap → List ℕ
swap_fields swap =
    number_bytes swap.tag ++ (slot_field swap.first ++ (slot_field swap.second ++ lengths_field swap))

-- The bytes after the gate. Both entries are closed, and their numbers are 0.
abbrev pub swap_body : Swap → List ℕ
swap_body swap = swap_fields swap ++ replicate 32 0

-- the swap with these fields
abbrev pub swap_of : List ℕ → Swap
swap_of bytes = record {
  tag = number_at (slice_range bytes 0 8);
  first = record {
    start = number_at (slice_range bytes 8 16);
    capacity = number_at (slice_range bytes 16 24);
  };
  second = record {
    start = number_at (slice_range bytes 24 32);
    capacity = number_at (slice_range bytes 32 40);
  };
  first_length = number_at (slice_range bytes 40 48);
  second_length = number_at (slice_range bytes 48 56);
}

-- the swap that the page records
abbrev pub swap_at : List ℕ → ℕ → Swap
swap_at image page = swap_of (slice_range image (page + 1) (page + 57))

-- the fields are in the ranges of their types
pub record IsTyped (swap : Swap) : Type 0 where
  pub tag : swap.tag < 2 ^ 64
  pub first : (swap.first.start < 2 ^ 64) × (swap.first.capacity < 2 ^ 64)
  pub second : (swap.second.start < 2 ^ 64) × (swap.second.capacity < 2 ^ 64)
  pub lengths : (swap.first_length < 2 ^ 64) × (swap.second_length < 2 ^ 64)

-- the page is open, and records this swap
pub record IsNoted (journal : Journal) (swap : Swap) (image : List ℕ) : Type 0 where
  pub opened : IsOpen image journal.page
  pub tells : swap_at image journal.page ≡ swap

-- the swap that the page records is open, and can be completed
pub record StandsOpen (journal : Journal) (slots : List Slot) (image : List ℕ) : Type 0 where
  pub opened : IsOpen image journal.page
  pub among : IsAmong slots (swap_at image journal.page)

-- ---- contents

-- where the lengths of two contents are stored
abbrev pub length_fields : Slot → Slot → List Range
length_fields first second =
    record { place = first.start; size = LENGTH_SIZE }
    ∷ record { place = second.start; size = LENGTH_SIZE } ∷ []

-- the slot has this length
abbrev pub IsStored : Slot → ℕ → List ℕ → Type 0
IsStored slot n image =
    n ≡ from_be_bytes w64 (slice_range image slot.start (slot.start + LENGTH_SIZE))

-- the content that the swap will give the first slot, by the progress in the image
abbrev pub first_after : Journal → Swap → List ℕ → List ℕ
first_after journal swap image =
    first_recovered (exchange_of journal swap) (progress_at image journal.page) image

-- the same for the second slot
abbrev pub second_after : Journal → Swap → List ℕ → List ℕ
second_after journal swap image =
    second_recovered (exchange_of journal swap) (progress_at image journal.page) image

-- the contents have these lengths, and a power loss now leaves them as they read
pub record HoldsContents (swap : Swap) (f : Flash) : Type 0 where
  pub first_length : length (slot_content swap.first f.reads) ≡ swap.first_length
  pub second_length : length (slot_content swap.second f.reads) ≡ swap.second_length
  pub first : (image : List ℕ) → Now f image
      → slot_content swap.first image ≡ slot_content swap.first f.reads
  pub second : (image : List ℕ) → Now f image
      → slot_content swap.second image ≡ slot_content swap.second f.reads

-- the page is closed, and both contents are the old ones
pub record IsUntouched (journal : Journal) (swap : Swap) (old image : List ℕ) : Type 0 where
  pub shut : IsOpen image journal.page → ⊥
  pub first : slot_content swap.first image ≡ slot_content swap.first old
  pub second : slot_content swap.second image ≡ slot_content swap.second old

-- the page records the swap, which will give each slot the other's old content
pub record IsExchanged (journal : Journal) (swap : Swap) (old image : List ℕ) : Type 0 where
  pub noted : IsNoted journal swap image
  pub first : first_after journal swap image ≡ slot_content swap.second old
  pub second : second_after journal swap image ≡ slot_content swap.first old

-- the page records the swap, which will give the same contents as from the old image
pub record GoesOn (journal : Journal) (swap : Swap) (old image : List ℕ) : Type 0 where
  pub noted : IsNoted journal swap image
  pub recovers : RecoversNow (exchange_of journal swap) journal.page old image

-- both slots hold the contents that the swap was to give them
pub record IsCompleted (journal : Journal) (swap : Swap) (old new : List ℕ) : Type 0 where
  pub first : slot_content swap.first new ≡ first_after journal swap old
  pub second : slot_content swap.second new ≡ second_after journal swap old

-- the swap has not begun, or will be carried out
abbrev pub IsUntouchedOrExchanged : Journal → Swap → List ℕ → List ℕ → Type 0
IsUntouchedOrExchanged journal swap old image =
    IsUntouched journal swap old image ⊎ IsExchanged journal swap old image

-- the image is one of the start, or one in which the swap that its page records goes on
abbrev pub StillOrGoesOn : Journal → Flash → List ℕ → Type 0
StillOrGoesOn journal start image =
    Now start image ⊎ GoesOn journal (swap_at start.reads journal.page) start.reads image

-- both slots hold the contents that the page recorded
abbrev pub Completes : Journal → List ℕ → List ℕ → Type 0
Completes journal old new = IsCompleted journal (swap_at old journal.page) old new

-- the tag of the swap that is open, or None if no such swap is open
abbrev pub IsTagOf : Journal → List Slot → List ℕ → Option ℕ → Type 0
IsTagOf journal slots image tag =
    MatchOption tag (StandsOpen journal slots image → ⊥)
    (λ t. StandsOpen journal slots image × (t ≡ (swap_at image journal.page).tag))

-- what the swap that the page records writes to
abbrev pub touched_by : Journal → List ℕ → List Range
touched_by journal image =
    let swap = swap_at image journal.page in touched journal swap.first swap.second
