use Rattle.std.proofs.Common.{ap, refl, sym, ◌∙◌}
use Rattle.std.proofs.lemmas.Result.{on_ok_weaker}
use Rattle.path_checker.proofs.ConditionLeaves.{Adds-content, Adds-no_content}
use Rattle.path_checker.proofs.judge_plan.conditions.check_content.Goals as goal

pub returns-then-has_content : goal.returns-then-has_content
returns-then-has_content c = on_ok_weaker c.pass.result (λ passed. Adds-content c.args.place c.args.component c.args.k c.args.k c.k.inside.params c.args.next.now.items c.pass.new.next.items c.args.failed.now c.stop_also.new.failed (ap (λ k. k.state.parameters) c.k.view_is) (sym c.has_content.ensures ∙ c.if-has_content.true) refl passed c.in_ok-stop_also.ensures) c.pass.ensures

pub returns : goal.returns
returns c = on_ok_weaker c.stop.result (λ ended. Adds-no_content c.args.place c.args.component c.args.k c.k.inside.params c.args.next.now.items c.args.failed.now c.stop.new.failed (ap (λ k. k.state.parameters) c.k.view_is) (sym c.has_content.ensures ∙ c.if-has_content.false) ended) c.stop.ensures
