-- The meaning of the verdict on a whole procedure.
use Rattle.std.specs.Prelude.{◌≡◌, ◌<◌, ◌≤◌, ℕ}
use Rattle.suit_commands.specs.Capped.{capped}
use Rattle.suit_commands.specs.Numbers.{width_number}
use Rattle.suit_commands.specs.Tree.{PlanTree}
use Rattle.path_model.specs.Safe.{Safe}
use Rattle.path_model.specs.BadPaths.{IsBadPath}
use Rattle.path_checker.specs.Choosing.{IsChosen}
use Rattle.path_checker.specs.Exploring.{Kept}
use Rattle.path_checker.specs.declared.judge_plan.CheckVerdict.{CheckVerdict}
use Rattle.path_checker.specs.declared.judge_plan.CheckVerdict.TheVariants as verdicts

-- the largest width of a procedure that is judged
abbrev pub widest : ℕ
widest = 4194304

-- the verdict is right for a procedure that is not too wide
abbrev pub Judges : PlanTree → CheckVerdict → Type 0
Judges plan verdicts.Safe = Safe plan
Judges plan (verdicts.Unsafe bad) = IsBadPath plan bad
Judges plan (verdicts.TooWide width) = ⊥
Judges plan verdicts.NoMemory = Unit {0}

-- the verdict tells the events that led to the state, and identities that its facts allow
abbrev pub Tells : Kept → CheckVerdict → Type 0
Tells k verdicts.Safe = ⊥
Tells k (verdicts.Unsafe bad) = IsChosen k.facts bad.identities × (bad.events ≡ k.events)
Tells k (verdicts.TooWide width) = ⊥
Tells k verdicts.NoMemory = Unit {0}

-- the verdict is right for a procedure of any width: one that is too wide is told by its width, and any other is judged
abbrev pub JudgesPlan : PlanTree → CheckVerdict → Type 0
JudgesPlan plan verdicts.Safe = (width_number plan ≤ widest) × Safe plan
JudgesPlan plan (verdicts.Unsafe bad) = (width_number plan ≤ widest) × IsBadPath plan bad
JudgesPlan plan (verdicts.TooWide width) = (widest < width_number plan) × (width ≡ capped (width_number plan))
JudgesPlan plan verdicts.NoMemory = width_number plan ≤ widest
