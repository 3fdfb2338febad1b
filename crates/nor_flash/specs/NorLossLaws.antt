-- The images that a power loss may leave of NOR flash in memory.
use Rattle.std.specs.Prelude.{◌≡◌, ◌↔◌, ◌++◌, [], ◌∷◌, ℕ, List, length}
use Rattle.suit_edge.specs.Flash.{Now}
use Rattle.suit_edge.specs.Ranges.{AreBytes, Outside, SameOn}
use Rattle.nor_flash.specs.declared.step.Step.{Step}
use Rattle.nor_flash.specs.MemoryNor.{MayLeave, flash_of, nor_reads, range_of}

pub record NorLossLaw : Type 0 where
  -- between two calls, a power loss leaves what is there
  pub between : (blocks : ℕ) (steps : List Step) (image : List ℕ)
      → Now (flash_of blocks steps) image ↔ (image ≡ nor_reads blocks steps)
  -- from the start of the last call on, it leaves any bytes in the range of that call, and elsewhere what was
  -- there before
  pub within : (blocks : ℕ) (steps : List Step) (last : Step) (image : List ℕ)
      → MayLeave blocks (steps ++ last ∷ []) (length steps) image ↔ (SameOn (Outside (range_of last).place (range_of last).size) (nor_reads blocks steps) image × AreBytes image)
