use Rattle.std.proofs.Common.{[], ◌∷◌, ◌∙◌, true, ap, Some, None, subst}
use Rattle.std.proofs.lemmas.Result.{IfOk-weaker}
use Rattle.path_checker.specs.Exploring.{Kept, kept_if}
use Rattle.path_checker.specs.Forking.{Learnt, some_if}
use Rattle.path_checker.specs.Steps.{with_events, knowing}
use Rattle.path_checker.proofs.ConditionLeaves.{told}
use Rattle.path_checker.proofs.Passing.{Passes-identity, Passes-told, Passes-no_own}
use Rattle.path_checker.proofs.judge_plan.conditions.pass_identity_test.Goals as goal

pub returns-in_ok-may_pass-in-Some : goal.returns-in_ok-may_pass-in-Some
returns-in_ok-may_pass-in-Some c =
    let may = c.in_ok-may_pass-in-Some.may_pass in
    let learned = c.learn.new.self in
    let learns = subst (λ (k : Kept). Learnt k.facts c.args.component c.in-Some.own (some_if may learned)) c.k.view_is c.in_ok-may_pass-in-Some.ensures in
    let same = ap (λ (k : Kept). kept_if may (with_events (knowing k learned) (told c.args.kind c.args.component true ∷ []))) c.k.view_is in
    IfOk-weaker c.happens_if.result _ _
    (λ on made. Passes-identity c.args.kind c.args.place c.args.component c.args.k.now c.k.inside.params (Some c.in-Some.own) (kept_if on c.happens_if.new.k) c.requires.kinds (ap (λ k. k.state.parameters) c.k.view_is) c.in-Some.ensures
    (Passes-told c.args.kind c.args.place c.args.component c.in-Some.own c.args.k.now c.happens_if.new.k learned may on learns (made ∙ same))) c.happens_if.ensures

pub returns-in-None : goal.returns-in-None
returns-in-None c = Passes-identity c.args.kind c.args.place c.args.component c.args.k.now c.k.inside.params None [] c.requires.kinds (ap (λ k. k.state.parameters) c.k.view_is) c.in-None.ensures (Passes-no_own c.args.kind c.args.place c.args.component c.args.k.now)
