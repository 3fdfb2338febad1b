-- The law of copies.
use Rattle.std.specs.Prelude.{◌≡◌, ◌<◌, ◌≤◌, ◌+◌, ℕ, List, length, slice_range}
use Rattle.suit_edge.specs.Ranges.{Outside, SameOn}
use Rattle.swap_journal.specs.declared.contents.Exchange.{Exchange}
use Rattle.swap_journal.specs.Exchanges.{AreApart, FitsDisk, IsCopy, RecoversSame, copies, copy_from, copy_size, copy_to, first_recovered, second_recovered}

pub record CopyLaws : Type 0 where
  -- before the first copy, each content is in the other's place
  pub none : (x : Exchange) (image : List ℕ) → FitsDisk x (length image)
      → (first_recovered x 0 image ≡ slice_range image x.second (x.second + x.second_length))
      × (second_recovered x 0 image ≡ slice_range image x.first (x.first + x.first_length))
  -- after the last copy, each content is in its own place
  pub all : (x : Exchange) (k : ℕ) (image : List ℕ) → copies x ≤ k → FitsDisk x (length image)
      → (first_recovered x k image ≡ slice_range image x.first (x.first + x.second_length))
      × (second_recovered x k image ≡ slice_range image x.second (x.second + x.first_length))
  -- a copy that was made leaves the recovered contents as they are
  pub made : (x : Exchange) (k : ℕ) (old new : List ℕ) → AreApart x → k < copies x
      → IsCopy (copy_from x k) (copy_to x k) (copy_size x k) old new
      → RecoversSame x k old (k + 1) new
  -- so does a copy that was torn
  pub torn : (x : Exchange) (k : ℕ) (old new : List ℕ) → AreApart x → k < copies x
      → SameOn (Outside (copy_to x k) (copy_size x k)) old new → RecoversSame x k old k new
