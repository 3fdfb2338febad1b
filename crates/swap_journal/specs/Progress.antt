-- The progress of an exchange: two entries of a page, each a gate and a number in 8 bytes.
use Rattle.std.specs.Prelude.{◌≡◌, ◌⊎◌, ◌≤◌, ◌+◌, ◌==◌, ℕ, max, List, [], ◌∷◌, slice_index, slice_range, if◌then◌else◌}
use Rattle.std.specs.Int.{w64, from_be_bytes}
use Rattle.suit_edge.specs.declared.page.TheConstants.{OPEN}
use Rattle.suit_edge.specs.Flash.{Flash, Now}
use Rattle.suit_edge.specs.Ranges.{Range}
use Rattle.swap_journal.specs.declared.contents.Exchange.{Exchange}
use Rattle.swap_journal.specs.declared.progress.Entry.{Entry}
use Rattle.swap_journal.specs.declared.progress.Entry.TheVariants.{First, Second}
use Rattle.swap_journal.specs.Exchanges.{RecoversSame, longest, first_recovered, second_recovered}

-- where the gate of an entry is
abbrev pub entry_gate : ℕ → Entry → ℕ
entry_gate page First = page + 64
entry_gate page Second = page + 80

abbrev pub other_entry : Entry → Entry
other_entry First = Second
other_entry Second = First

-- the ranges of both entries
abbrev pub entries : ℕ → List Range
entries page = record { place = page + 64; size = 9 } ∷ record { place = page + 80; size = 9 } ∷ []

-- the number of an entry, or 0 if its gate is closed
abbrev pub number_at : List ℕ → ℕ → ℕ
number_at image gate =
    if slice_index image gate == OPEN then from_be_bytes w64 (slice_range image (gate + 1) (gate + 9)) else 0

-- The higher number of the two entries gives the progress. It is 0 if neither gate is open.
abbrev pub progress_at : List ℕ → ℕ → ℕ
progress_at image page = max (number_at image (page + 64)) (number_at image (page + 80))

-- the entry other than the spare one gives this progress
pub record GivesProgress (image : List ℕ) (page : ℕ) (spare : Entry) (k : ℕ) : Type 0 where
  pub number : number_at image (entry_gate page (other_entry spare)) ≡ k
  pub lower : number_at image (entry_gate page spare) ≤ k

-- the page shares no byte with the areas
pub record IsPageApart (x : Exchange) (page : ℕ) : Type 0 where
  pub first : (x.first + longest x ≤ page) ⊎ (page + 89 ≤ x.first)
  pub second : (x.second + longest x ≤ page) ⊎ (page + 89 ≤ x.second)
  pub scratch : (x.scratch + 4096 ≤ page) ⊎ (page + 89 ≤ x.scratch)

-- both images give the same contents, each by its own progress
abbrev pub RecoversNow : Exchange → ℕ → List ℕ → List ℕ → Type 0
RecoversNow x page old image = RecoversSame x (progress_at old page) old (progress_at image page) image

-- each content that is recovered from the old image is in its place in the new one
pub record Stands (x : Exchange) (page : ℕ) (old new : List ℕ) : Type 0 where
  pub first : slice_range new x.first (x.first + x.second_length) ≡ first_recovered x (progress_at old page) old
  pub second : slice_range new x.second (x.second + x.first_length) ≡ second_recovered x (progress_at old page) old

-- the image is one of the start, or gives the same contents as what the start reads
abbrev pub StillRecovers : Exchange → ℕ → Flash → List ℕ → Type 0
StillRecovers x page start image = Now start image ⊎ RecoversNow x page start.reads image
