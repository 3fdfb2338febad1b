use Rattle.std.proofs.Common.{refl, ◌∙◌}
use Rattle.std.proofs.lemmas.Result.{on_ok_weaker}
use Rattle.path_checker.specs.Happening.{event_of}
use Rattle.path_checker.proofs.PastLaws.{end_told}
use Rattle.path_checker.proofs.judge_plan.history.History.add_failure.Goals as goal

pub returns : goal.returns
returns c = on_ok_weaker c.add-2.result (λ added. added ∙ end_told c.args.self.now c.add.new.self (event_of c.args.event) c.args.place _ c.in_ok-add.ensures refl) c.add-2.ensures
