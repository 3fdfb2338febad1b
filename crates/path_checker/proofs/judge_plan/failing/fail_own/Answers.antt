use Rattle.std.proofs.Common.{ap, ◌∙◌, subst}
use Rattle.path_checker.specs.declared.judge_plan.facts.Fork.{Fork}
use Rattle.path_checker.specs.declared.judge_plan.facts.Fork.TheVariants as forks
use Rattle.path_checker.specs.Exploring.{Kept}
use Rattle.path_checker.specs.Forking.{Forks}
use Rattle.path_checker.proofs.ConditionLeaves.{missed_by}
use Rattle.path_checker.proofs.Spelling.{Fails-own, Fails-either}
use Rattle.path_checker.proofs.judge_plan.failing.fail_own.Goals as goal

pub returns-in-HasNot : goal.returns-in-HasNot
returns-in-HasNot c =
    let facts : Forks c.args.k.facts c.args.site.component c.args.own.now c.in_ok-fork.field-0 = subst (λ (x : Kept). Forks x.facts c.args.site.component c.args.own.now c.in_ok-fork.field-0) c.k.view_is c.in_ok-fork.ensures in
    let has_not : Forks c.args.k.facts c.args.site.component c.args.own.now forks.HasNot = subst (λ (f : Fork). Forks c.args.k.facts c.args.site.component c.args.own.now f) c.in-HasNot.is facts in
    Fails-own c.args.kind c.args.site.place c.args.site.component c.args.own.now c.args.k c.failed_at.result has_not c.failed_at.ensures

pub returns : goal.returns
returns c =
    let facts : Forks c.args.k.facts c.args.site.component c.args.own.now c.in_ok-fork.field-0 = subst (λ (x : Kept). Forks x.facts c.args.site.component c.args.own.now c.in_ok-fork.field-0) c.k.view_is c.in_ok-fork.ensures in
    let both : Forks c.args.k.facts c.args.site.component c.args.own.now (forks.Either c.in-Either.field-0 c.in-Either.has_not) = subst (λ (f : Fork). Forks c.args.k.facts c.args.site.component c.args.own.now f) c.in-Either.is facts in
    Fails-either c.args.kind c.args.site.place c.args.site.component c.args.own.now c.args.k c.in-Either.field-0 c.in-Either.has_not c.failed_at-in-Either.result both
    (c.failed_at-in-Either.ensures ∙ ap (λ (x : Kept). missed_by c.args.kind c.args.site.component c.args.site.place x) c.under.ensures)
