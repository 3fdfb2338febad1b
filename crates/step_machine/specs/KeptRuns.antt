-- How a procedure that recalls and keeps the outcomes of its free steps ends, by its play.
use Rattle.std.specs.Prelude.{◌≡◌, ℕ, Bool, not, List, [], ◌∷◌, ◌++◌, map}
use Rattle.suit_edge.specs.declared.launch.Launch.{Launch}
use Rattle.suit_edge.specs.Ranges.{OutsideEach, Range}
use Rattle.suit_commands.specs.Tree.{PlanTree}
use Rattle.path_model.specs.Settings.{Setting}
use Rattle.path_model.specs.RecalledPlays.{recalling}
use Rattle.path_model.specs.KeepingPlays.{first_recalling, keeping_play}
use Rattle.step_machine.specs.declared.plan_end.PlanEnd.{PlanEnd}
use Rattle.step_machine.specs.declared.plan_end.PlanEnd.TheVariants as ends
use Rattle.step_machine.specs.declared.spot.Standing.{Standing}
use Rattle.step_machine.specs.Invoking.{launched_as}
use Rattle.step_machine.specs.PlanRuns.{EndsAs, OutsideTargets}
use Rattle.step_machine.specs.Stages.{Terms}

-- the setting, in which keeping may fail unless the trail is silent
abbrev pub terms_of : Bool → Setting → Terms
terms_of silent setting = record { setting = setting; may_fail = not silent }

-- the contents, and the outcomes that are left to recall
pub record KeptAt : Type 0 where
  pub contents : List (List ℕ)
  pub left : List Bool

abbrev pub kept_at : List (List ℕ) → List Bool → KeptAt
kept_at contents left = record { contents = contents; left = left }

-- the launches that were added and the names that were asked for are those of the play, and so are the outcomes that
-- were recalled or kept
pub record PlaysKept (plan : PlanTree) (terms : Terms) (end : PlanEnd) (before after : KeptAt)
    (launched now : List Launch) : Type 0 where
  pub gained : List Launch
  pub added : now ≡ launched ++ gained
  pub asks : List (List ℕ)
  pub noted : List Bool
  pub ends :
      EndsAs (keeping_play terms.may_fail plan terms.setting)
      (first_recalling before.left before.contents) end
      (recalling after.left noted
      (record { contents = after.contents; launches = map launched_as gained; asked = asks }))

-- the place is outside the slots that the procedure may write, and outside these ranges
abbrev pub OutsideWrites : PlanTree → List Standing → List Range → ℕ → Type 0
OutsideWrites plan standings [] = OutsideTargets plan standings
OutsideWrites plan standings (range ∷ ranges) =
    λ i. OutsideTargets plan standings i × OutsideEach (range ∷ ranges) i

-- the property holds, unless a directive failed or a fault came
abbrev pub IfNoFault : PlanEnd → Type 0 → Type 0
IfNoFault ends.Done P = P
IfNoFault (ends.ConditionFailed place) P = P
IfNoFault (ends.DirectiveFailed place cause) P = Unit {0}
