use Rattle.std.proofs.Common.{refl, sym, ◌∙◌, subst}
use Rattle.std.proofs.lemmas.List.{take_all}
use Rattle.path_checker.specs.Exploring.{In}
use Rattle.path_checker.proofs.Outside.{IsApart}
use Rattle.path_checker.proofs.Among.{in_at, apart_out}
use Rattle.path_checker.proofs.DirectiveLeaves.{never_true}
use Rattle.path_checker.proofs.judge_plan.known.is_among.Goals as goal

pub returns : goal.returns
returns g c =
    let apart : IsApart c.args.value.now c.args.values.now = subst (λ xs. IsApart c.args.value.now xs) (take_all c.loop-other.other-index c.args.values.now c.loop-other-test.false) c.loop-other.invariant in
    (λ h. absurd (never_true h), λ h. absurd (apart_out c.args.value.now c.args.values.now apart h))

pub returns-then-is : goal.returns-then-is
returns-then-is g c = (λ h. subst (λ x. In x c.args.values.now) (sym c.other-item.is ∙ c.is.ensures.0 c.if-is.true) (in_at c.args.values.now c.loop-other.other-index _ c.loop-other-test.true), λ h. refl)
