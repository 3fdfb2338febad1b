use Rattle.std.proofs.Common.{ap, ◌∙◌}
use Rattle.std.proofs.lemmas.List.{append-nil}
use Rattle.path_checker.specs.declared.judge_plan.telling.Told.TheVariants.{Nothing}
use Rattle.path_checker.specs.Happening.{log_told}
use Rattle.path_checker.proofs.PastLaws.{log_told-last}
use Rattle.path_checker.proofs.judge_plan.past.Past.copy.Goals as goal

pub returns : goal.returns
returns c = ap log_told c.and.ensures ∙ log_told-last c.self.inside.log.items Nothing ∙ append-nil (log_told c.self.inside.log.items) ∙ c.self.view_is
