use Rattle.std.proofs.Common.{ap, ◌∙◌, subst, true, [], ◌∷◌, ◌++◌}
use Rattle.std.proofs.lemmas.Result.{on_ok_weaker}
use Rattle.path_model.specs.declared.event.Event.TheVariants.{Tried}
use Rattle.path_checker.specs.declared.judge_plan.facts.Fork.{Fork}
use Rattle.path_checker.specs.declared.judge_plan.facts.Fork.TheVariants as forks
use Rattle.path_checker.specs.Exploring.{Kept}
use Rattle.path_checker.specs.Forking.{Forks}
use Rattle.path_checker.specs.Steps.{with_events}
use Rattle.path_checker.proofs.ConditionLeaves.{Adds-has, Adds-has_not, Adds-either}
use Rattle.path_checker.proofs.judge_plan.conditions.own_test.Goals as goal

pub returns-in-Has : goal.returns-in-Has
returns-in-Has c =
    let facts : Forks c.args.k.facts c.args.site.component c.args.own.now c.in_ok-fork.field-0 = subst (λ (x : Kept). Forks x.facts c.args.site.component c.args.own.now c.in_ok-fork.field-0) c.k.view_is c.in_ok-fork.ensures in
    let has : Forks c.args.k.facts c.args.site.component c.args.own.now forks.Has = subst (λ (f : Fork). Forks c.args.k.facts c.args.site.component c.args.own.now f) c.in-Has.is facts in
    on_ok_weaker c.pass.result (λ passed. Adds-has c.args.kind c.args.site.place c.args.site.component c.args.own.now c.args.k c.args.next.now.items c.pass.new.next.items c.args.failed.now has passed) c.pass.ensures

pub returns-in-HasNot : goal.returns-in-HasNot
returns-in-HasNot c =
    let facts : Forks c.args.k.facts c.args.site.component c.args.own.now c.in_ok-fork.field-0 = subst (λ (x : Kept). Forks x.facts c.args.site.component c.args.own.now c.in_ok-fork.field-0) c.k.view_is c.in_ok-fork.ensures in
    let has_not : Forks c.args.k.facts c.args.site.component c.args.own.now forks.HasNot = subst (λ (f : Fork). Forks c.args.k.facts c.args.site.component c.args.own.now f) c.in-HasNot.is facts in
    on_ok_weaker c.stop.result (λ ended. Adds-has_not c.args.kind c.args.site.place c.args.site.component c.args.own.now c.args.k c.args.next.now.items c.args.failed.now c.stop.new.failed has_not ended) c.stop.ensures

pub returns-in_ok-stop_knowing-in-Either : goal.returns-in_ok-stop_knowing-in-Either
returns-in_ok-stop_knowing-in-Either c =
    let facts : Forks c.args.k.facts c.args.site.component c.args.own.now c.in_ok-fork.field-0 = subst (λ (x : Kept). Forks x.facts c.args.site.component c.args.own.now c.in_ok-fork.field-0) c.k.view_is c.in_ok-fork.ensures in
    let both : Forks c.args.k.facts c.args.site.component c.args.own.now (forks.Either c.in-Either.has c.in-Either.has_not) = subst (λ (f : Fork). Forks c.args.k.facts c.args.site.component c.args.own.now f) c.in-Either.is facts in
    on_ok_weaker c.pass-in-Either.result (λ passed. Adds-either c.args.kind c.args.site.place c.args.site.component c.args.own.now c.args.k c.in-Either.has c.in-Either.has_not c.args.next.now.items c.pass-in-Either.new.next.items c.args.failed.now c.stop_knowing.new.failed both.0 both.1
    (passed ∙ ap (λ (x : Kept). c.args.next.now.items ++ with_events x (Tried c.args.site.component c.args.kind true ∷ []) ∷ []) c.under.ensures)
    c.in_ok-stop_knowing-in-Either.ensures) c.pass-in-Either.ensures
