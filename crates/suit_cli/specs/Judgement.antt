-- The stages that judge the two procedures of a manifest.
use Rattle.std.specs.Prelude.{◌≡◌, ◌<◌, ℕ, List, ◌++◌, codes}
use Rattle.suit_commands.specs.Tree.{PlanTree}
use Rattle.suit_commands.specs.Capped.{capped}
use Rattle.suit_commands.specs.Numbers.{width_number}
use Rattle.path_model.specs.declared.bad_path.BadPath.{BadPath}
use Rattle.path_model.specs.Safe.{Safe}
use Rattle.path_model.specs.BadPaths.{IsBadPath}
use Rattle.path_checker.specs.PlanVerdicts.{widest}
pub use Rattle.admission.specs.Judging.{IsNarrow}
use Rattle.suit_cli.specs.declared.reply.Reply.{Reply}
use Rattle.suit_cli.specs.declared.reply.Outcome.TheVariants as outcomes
use Rattle.suit_cli.specs.Lines.{path_lines}
use Rattle.suit_cli.specs.Texts.{too_wide_line, update_unsafe_line, invocation_unsafe_lines}
use Rattle.suit_cli.specs.Replies.{IsReply}
use Rattle.suit_cli.specs.Stages.{Stage, judging}

-- ---- how much there is to judge

pub record IsWide (plan : PlanTree) (reply : Reply) : Type 0 where
  pub wide : widest < width_number plan
  pub says : IsReply reply outcomes.TooWide (too_wide_line (capped (width_number plan)))

abbrev pub narrow : PlanTree → Stage (Unit {0})
narrow plan = judging (λ _. IsNarrow plan) (IsWide plan)

-- ---- the paths

-- each invoke is covered on every path of both procedures
pub record AreSafe (update invocation : PlanTree) : Type 0 where
  pub update_safe : Safe update
  pub invocation_safe : Safe invocation

-- the lines of a path on which an invoke is not covered; the update is judged before the invocation
pub data ShowUnsafe (update invocation : PlanTree) (text : List ℕ) : Type 0 where
  UpdateUnsafe : (bad : BadPath) → IsBadPath update bad
      → text ≡ update_unsafe_line ++ path_lines bad → ShowUnsafe update invocation text
  InvocationUnsafe : (bad : BadPath) → Safe update → IsBadPath invocation bad
      → text ≡ invocation_unsafe_lines ++ path_lines bad
      → ShowUnsafe update invocation text

pub data AreJudged (update invocation : PlanTree) (reply : Reply) : Type 0 where
  JudgedSafe : AreSafe update invocation
      → IsReply reply outcomes.Done (codes "update safe\ninvocation safe\n")
      → AreJudged update invocation reply
  JudgedUnsafe : reply.outcome ≡ outcomes.Unsafe → ShowUnsafe update invocation reply.text
      → AreJudged update invocation reply
