use Rattle.std.proofs.Common.{◌≡◌, ◌<◌, ◌≤◌, List, length, Some, None, sym, ap, ◌∙◌, subst, arith}
use Rattle.path_checker.specs.declared.judge_plan.facts.Knowledge.{Knowledge}
use Rattle.path_checker.specs.Forking.{TellsOne, Learnt, learnt_at, some_if}
use Rattle.path_checker.proofs.Narrowing.{past_last, learnt_open, learnt_told}
use Rattle.path_checker.proofs.judge_plan.facts.Facts.learn.Goals as goal

pub returns-then-index-held : goal.returns-then-index-held
returns-then-index-held c ids al h =
    let e : length c.as_slice-held.result.now ≡ length c.args.self.now = ap (λ (fs : List Knowledge). length fs) c.as_slice-held.ensures in
    let le : length c.args.self.now ≤ c.args.component = omega (arith, e, c.if-index-held.true) in
    past_last c.args.self.now c.args.component c.args.own.now le ids al h

pub returns-in-Some : goal.returns-in-Some
returns-in-Some c =
    let lt : c.args.component < length c.as_slice-held.result.now = omega (arith, c.if-index-held.false) in
    let told : TellsOne c.index-held-index.result c.args.own.now (Some c.in-Some.has) = subst (λ o. TellsOne c.index-held-index.result c.args.own.now o) c.in-Some.is c.tells.ensures in
    subst (λ (fs : List Knowledge). Learnt fs c.args.component c.args.own.now (some_if c.in-Some.has fs)) c.as_slice-held.ensures
    (learnt_told c.as_slice-held.result.now c.args.component _ c.index-held-index.result c.args.own.now c.in-Some.has lt c.index-held-index.is told)

pub returns-in_ok-learn_at-in-None : goal.returns-in_ok-learn_at-in-None
returns-in_ok-learn_at-in-None c =
    let lt : c.args.component < length c.as_slice-held.result.now = omega (arith, c.if-index-held.false) in
    let told : TellsOne c.index-held-index.result c.args.own.now None = subst (λ o. TellsOne c.index-held-index.result c.args.own.now o) c.in-None.is c.tells.ensures in
    subst (λ (fs : List Knowledge). Learnt fs c.args.component c.args.own.now (Some c.learn_at.new.self)) c.as_slice-held.ensures
    (learnt_open c.as_slice-held.result.now c.learn_at.new.self c.args.component _ c.index-held-index.result c.args.own.now lt c.index-held-index.is told (c.in_ok-learn_at-in-None.ensures ∙ ap (λ (fs : List Knowledge). learnt_at fs c.args.component c.args.own.now) (sym c.as_slice-held.ensures)))
