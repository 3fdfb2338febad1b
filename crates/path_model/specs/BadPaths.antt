-- Paths that show that a procedure is not safe.
use Rattle.path_model.specs.declared.bad_path.BadPath.{BadPath}
use Rattle.suit_commands.specs.Tree.{PlanTree}
use Rattle.path_model.specs.Path.{AreIdentities, Path}
use Rattle.path_model.specs.Safe.{EndsUncovered}

-- a path of the procedure for these identities, whose last event is its first uncovered invoke
pub record IsBadPath (plan : PlanTree) (bad : BadPath) : Type 0 where
  pub identities : AreIdentities plan bad.identities
  pub path : Path plan bad.identities bad.events
  pub ends : EndsUncovered bad.events
