use Rattle.std.proofs.Common.{rules, ◌<◌, length, sym, subst, arith}
use Rattle.path_checker.specs.Exploring.{In}
use Rattle.path_checker.proofs.Merging.{in_list}
use Rattle.path_checker.proofs.judge_plan.merged.stands_for.Goals as goal

pub returns-then-is_same : goal.returns-then-is_same
returns-then-is_same g c t =
    let lt : c.in-Some.index < length c.args.kept.now = omega (arith, c.if-index-left.false, c.loop-at.invariant) in (
      c.index-kept-index.result,
      subst (λ x. In x c.args.kept.now) (sym c.index-kept-index.is) (in_list c.args.kept.now c.in-Some.index c.index-kept-index.result lt),
      c.if-is_same.ensures (search rules),
    )
