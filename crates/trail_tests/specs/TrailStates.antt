-- A trail in memory: the outcomes that are left to recall, and those that were recalled or kept.
use Rattle.std.specs.Prelude.{Bool, List}

pub record TrailState : Type 0 where
  pub left : List Bool
  pub list : List Bool
