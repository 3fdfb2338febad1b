-- Procedures that differ only in their places are judged alike.
use Rattle.std.specs.Prelude.{◌≡◌}
use Rattle.suit_commands.specs.Tree.{PlanTree}
use Rattle.suit_commands.specs.Allowed.{IsPlan}
use Rattle.suit_commands.specs.Numbers.{work_number, spread_number, width_number}
use Rattle.suit_manifest.specs.declared.manifest.Manifest.{Manifest}
use Rattle.suit_manifest.specs.Procedures.{invocation_tree}
use Rattle.path_model.specs.declared.bad_path.BadPath.{BadPath}
use Rattle.path_model.specs.BadPaths.{IsBadPath}
use Rattle.path_model.specs.Safe.{Safe}
use Rattle.place_laws.specs.PlacesApart.{SameEvents, SameManifest, SamePlan}

-- if manifests differ only in their places, so do their invocation procedures
abbrev pub ProcedureMoves : Type 0
ProcedureMoves = (m n : Manifest) → SameManifest m n → SamePlan (invocation_tree m) (invocation_tree n)

-- of procedures that differ only in their places, both are safe or neither is
abbrev pub SafeMoves : Type 0
SafeMoves = (a b : PlanTree) → SamePlan a b → Safe a → Safe b

-- a path that shows that one procedure is not safe shows it of the other, but for the places of what failed
abbrev pub BadPathMoves : Type 0
BadPathMoves =
    (a b : PlanTree) (bad : BadPath) → SamePlan a b → IsBadPath a bad
    → (other : BadPath) × IsBadPath b other × (other.identities ≡ bad.identities) × SameEvents bad.events other.events

pub record HaveSameNumbers (a b : PlanTree) : Type 0 where
  pub work : work_number a ≡ work_number b
  pub spread : spread_number a ≡ spread_number b
  pub width : width_number a ≡ width_number b

-- procedures that differ only in their places have the same width
abbrev pub NumbersMove : Type 0
NumbersMove = (a b : PlanTree) → SamePlan a b → HaveSameNumbers a b

-- of procedures that differ only in their places, the grammar allows both or neither
abbrev pub GrammarMoves : Type 0
GrammarMoves = (a b : PlanTree) → SamePlan a b → IsPlan a → IsPlan b
