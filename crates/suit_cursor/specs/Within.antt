-- The sequences that a walk has entered, as trees.
use Rattle.std.specs.Prelude.{◌≤◌, ℕ, suc, ◌+◌, List, [], ◌∷◌, map, length}
use Rattle.suit_commands.specs.Depth.{sequence_depth, branches_depth}
use Rattle.suit_commands.specs.Tree.{BranchesTree, NoBranches, BranchThen}
use Rattle.suit_cursor.specs.declared.level.Level.{Level as Entered}
use Rattle.suit_cursor.specs.declared.level.Within.{Within}
use Rattle.suit_cursor.specs.declared.level.Within.TheVariants.{Nothing, Tries, Run}
use Rattle.suit_cursor.specs.Spelled.{AreShortSteps, AreShortBranches}
use Rattle.suit_cursor.specs.Walking.{Level, Standing}

-- the branches of the command that was returned last
abbrev pub branches_in : Within → BranchesTree
branches_in Nothing = NoBranches
branches_in (Tries branches) = branches
branches_in (Run inner) = BranchThen inner NoBranches

abbrev pub level_of : Entered → Level
level_of level = record { left = level.left; branches = branches_in level.within }

abbrev pub standing_of : ℕ → Entered → List Entered → Standing
standing_of count here outer = record { here = level_of here; outer = map level_of outer; count = count }

-- with `around` levels around this one, at most eight levels nest, and each takes fewer than 2^32 bytes
pub record IsLevel (around : ℕ) (level : Level) : Type 0 where
  pub steps_deep : sequence_depth level.left + around ≤ 8
  pub branches_deep : branches_depth level.branches + around ≤ 8
  pub steps_short : AreShortSteps level.left
  pub branches_short : AreShortBranches level.branches

-- each of these is such a level; the first is the outermost, with `around` levels around it
abbrev pub AreLevels : ℕ → List Level → Type 0
AreLevels around [] = Unit {0}
AreLevels around (level ∷ inner) = IsLevel around level × AreLevels (suc around) inner

-- the sequence that was entered last and those around it are such levels
pub record Stands (here : Entered) (outer : List Entered) : Type 0 where
  pub inmost : IsLevel (length outer) (level_of here)
  pub others : AreLevels 0 (map level_of outer)
