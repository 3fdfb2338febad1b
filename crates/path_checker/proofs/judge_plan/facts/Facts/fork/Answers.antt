use Rattle.std.proofs.Common.{◌≡◌, ◌<◌, ◌≤◌, List, length, Some, None, sym, ap, ◌∙◌, subst, arith}
use Rattle.std.specs.Prelude.{slice_set, true, false}
use Rattle.path_checker.specs.declared.judge_plan.facts.Knowledge.{Knowledge}
use Rattle.path_checker.specs.Knowing.{Allows, Learns}
use Rattle.path_checker.specs.Forking.{NarrowsOne, TellsOne, HasOne, HasNoneOf, Has, HasNo}
use Rattle.path_checker.proofs.Narrowing.{past_last, decided_at, learns_at}
use Rattle.path_checker.proofs.Telling.{decides_has, decides_has_not, narrows_learnt, narrows_excluded}
use Rattle.path_checker.proofs.judge_plan.facts.Facts.fork.Goals as goal

pub returns-then-index-held : goal.returns-then-index-held
returns-then-index-held c ids al h =
    let e : length c.as_slice-held.result.now ≡ length c.args.self.now = ap (λ (fs : List Knowledge). length fs) c.as_slice-held.ensures in
    let le : length c.args.self.now ≤ c.args.component = omega (arith, e, c.if-index-held.true) in
    past_last c.args.self.now c.args.component c.args.own.now le ids al h

pub returns-then-has : goal.returns-then-has
returns-then-has c ids al =
    let lt : c.args.component < length c.as_slice-held.result.now = omega (arith, c.if-index-held.false) in
    let told : TellsOne c.index-held-index.result c.args.own.now (Some true) = subst (λ o. TellsOne c.index-held-index.result c.args.own.now o) (c.in-Some.is ∙ ap Some c.if-has.true) c.tells.ensures in
    decided_at c.as_slice-held.result.now c.args.component _ c.index-held-index.result (HasOne c.args.own.now) lt c.index-held-index.is (decides_has c.index-held-index.result c.args.own.now told) ids (subst (λ (fs : List Knowledge). Allows fs ids) (sym c.as_slice-held.ensures) al)

pub returns-else-has : goal.returns-else-has
returns-else-has c ids al h =
    let lt : c.args.component < length c.as_slice-held.result.now = omega (arith, c.if-index-held.false) in
    let told : TellsOne c.index-held-index.result c.args.own.now (Some false) = subst (λ o. TellsOne c.index-held-index.result c.args.own.now o) (c.in-Some.is ∙ ap Some c.if-has.false) c.tells.ensures in
    decided_at c.as_slice-held.result.now c.args.component _ c.index-held-index.result (HasNoneOf c.args.own.now) lt c.index-held-index.is (decides_has_not c.index-held-index.result c.args.own.now told) ids (subst (λ (fs : List Knowledge). Allows fs ids) (sym c.as_slice-held.ensures) al) h

pub returns-in_ok-has_not-in-None : goal.returns-in_ok-has_not-in-None
returns-in_ok-has_not-in-None c =
    let lt : c.args.component < length c.as_slice-held.result.now = omega (arith, c.if-index-held.false) in
    let told : TellsOne c.index-held-index.result c.args.own.now None = subst (λ o. TellsOne c.index-held-index.result c.args.own.now o) c.in-None.is c.tells.ensures in (
      subst (λ (fs : List Knowledge). Learns fs c.in_ok-has-in-None.has (Has c.args.component c.args.own.now)) c.as_slice-held.ensures
          (learns_at c.as_slice-held.result.now c.in_ok-has-in-None.has c.args.component _ c.index-held-index.result c.in_ok-with-in-None.field-0 (HasOne c.args.own.now) lt c.index-held-index.is (c.in_ok-has-in-None.ensures ∙ ap (λ (fs : List Knowledge). slice_set fs c.args.component c.in_ok-with-in-None.field-0) (sym c.as_slice-held.ensures)) (subst (λ (k : Knowledge). NarrowsOne c.index-held-index.result k (HasOne c.args.own.now)) (sym c.in_ok-with-in-None.ensures) (narrows_learnt c.index-held-index.result c.args.own.now told))),
      subst (λ (fs : List Knowledge). Learns fs c.in_ok-has_not-in-None.has_not (HasNo c.args.component c.args.own.now)) c.as_slice-held.ensures
          (learns_at c.as_slice-held.result.now c.in_ok-has_not-in-None.has_not c.args.component _ c.index-held-index.result c.in_ok-without-in-None.field-0 (HasNoneOf c.args.own.now) lt c.index-held-index.is (c.in_ok-has_not-in-None.ensures ∙ ap (λ (fs : List Knowledge). slice_set fs c.args.component c.in_ok-without-in-None.field-0) (sym c.as_slice-held.ensures)) (subst (λ (k : Knowledge). NarrowsOne c.index-held-index.result k (HasNoneOf c.args.own.now)) (sym c.in_ok-without-in-None.ensures) (narrows_excluded c.index-held-index.result c.args.own.now told))),
    )
