-- Procedures that may be run, since they are narrow enough to be judged, and safe. These definitions are this project's
-- own.
use Rattle.std.specs.Prelude.{◌≡◌, ◌<◌, ◌≤◌, ℕ}
use Rattle.suit_commands.specs.Capped.{capped}
use Rattle.suit_commands.specs.Numbers.{width_number}
use Rattle.suit_commands.specs.Tree.{PlanTree}
use Rattle.suit_manifest.specs.declared.manifest.Manifest.{Manifest}
use Rattle.suit_manifest.specs.declared.manifest.Members.{Members}
use Rattle.suit_manifest.specs.Procedures.{invocation_tree, update_tree}
use Rattle.path_model.specs.BadPaths.{IsBadPath}
use Rattle.path_model.specs.Safe.{Safe}
use Rattle.path_checker.specs.PlanVerdicts.{widest}
use Rattle.admission.specs.declared.refusal.NotSafe.{NotSafe}
use Rattle.admission.specs.declared.refusal.NotSafe.TheVariants as refusals
use Rattle.admission.specs.declared.refusal.Procedure.TheVariants as procedures

-- the procedure is narrow enough to be judged
abbrev pub IsNarrow : PlanTree → Type 0
IsNarrow plan = width_number plan ≤ widest

-- the procedure is too wide to be judged, and this is its width
pub record IsWide (plan : PlanTree) (width : ℕ) : Type 0 where
  pub wide : widest < width_number plan
  pub width_is : width ≡ capped (width_number plan)

-- both procedures are narrow enough to be judged
pub record AreNarrow (update invocation : PlanTree) : Type 0 where
  pub update_narrow : IsNarrow update
  pub invocation_narrow : IsNarrow invocation

-- both procedures are narrow enough, and on each of their paths each invoke is covered
pub record AreSafe (update invocation : PlanTree) : Type 0 where
  pub narrow : AreNarrow update invocation
  pub update_safe : Safe update
  pub invocation_safe : Safe invocation

-- why the procedures may not be run; the width of the update comes first, then that of the invocation, then their paths
abbrev pub IsNotSafe : PlanTree → PlanTree → NotSafe → Type 0
IsNotSafe update invocation (refusals.TooWide procedures.Update width) = IsWide update width
IsNotSafe update invocation (refusals.TooWide procedures.Invocation width) =
    IsNarrow update × IsWide invocation width
IsNotSafe update invocation (refusals.Unsafe procedures.Update path) =
    AreNarrow update invocation × IsBadPath update path
IsNotSafe update invocation (refusals.Unsafe procedures.Invocation path) =
    AreNarrow update invocation × Safe update × IsBadPath invocation path
IsNotSafe update invocation refusals.NoMemory = ⊥

-- ---- the procedures of a manifest with its members

-- both procedures of the manifest may be run
abbrev pub MayRun : Manifest → Members → Type 0
MayRun manifest members = AreSafe (update_tree manifest members) (invocation_tree manifest)

-- why the procedures of the manifest may not be run
abbrev pub MayNotRun : Manifest → Members → NotSafe → Type 0
MayNotRun manifest members = IsNotSafe (update_tree manifest members) (invocation_tree manifest)
