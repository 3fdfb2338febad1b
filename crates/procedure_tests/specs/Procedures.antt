-- Procedures of three components, read from the bytes of their parts.
use Rattle.std.specs.Prelude.{◌≡◌, ℕ, Bool, true, false, List, Ok}
use Rattle.suit_commands.specs.Allowed.{levels_inside}
use Rattle.suit_commands.specs.SequenceReading.{whole_sequence}
use Rattle.suit_commands.specs.Tree.{SequenceTree, PlanTree}

-- the bytes are read as this sequence, from place 100 on
abbrev pub IsReadAs : Bool → List ℕ → SequenceTree → Type 0
IsReadAs shared bytes sequence =
    whole_sequence shared 3 levels_inside (record { left = bytes; place = 100 }) ≡ Ok sequence

-- the bytes of the four parts are read as those of this procedure
pub record AreReadAs (of_shared of_first of_second of_third : List ℕ) (plan : PlanTree) : Type 0 where
  pub shared : IsReadAs true of_shared plan.shared
  pub first : IsReadAs false of_first plan.first
  pub second : IsReadAs false of_second plan.second
  pub third : IsReadAs false of_third plan.third
  pub count : plan.count ≡ 3
