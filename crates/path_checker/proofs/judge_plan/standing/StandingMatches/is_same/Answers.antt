use Rattle.std.proofs.Common.{rules, List, subst, arith}
use Rattle.std.specs.Prelude.{◌↔◌, slice_get}
use Rattle.path_checker.specs.Exploring.{In}
use Rattle.path_checker.specs.Matches.{Match, matches_from}
use Rattle.path_checker.proofs.HeldLaws.{same_held_at, same_here, same_next}
use Rattle.path_checker.proofs.judge_plan.standing.StandingMatches.is_same.Goals as goal

pub loop-index-preserved : goal.loop-index-preserved
loop-index-preserved c component lt any =
    same_next c.as_slice-mine.result.now c.as_slice-others.result.now c.loop-index.index component c.loop-index.invariant
    (same_here c.as_slice-mine.result.now c.as_slice-others.result.now c.loop-index.index _ _ c.index-mine-index.result c.index-others-index.result (omega (arith, c.loop-index-test.true)) (omega (arith, c.if-mine-others.false, c.loop-index-test.true)) c.index-mine-index.is c.index-others-index.is (c.is_same_held.ensures (search rules)))
    lt any

pub returns : goal.returns
returns c t component any =
    subst (λ (of : List (List Match)). In any (matches_from (slice_get of component)) ↔ In any (matches_from (slice_get c.args.other.now.of.items component))) c.as_slice-mine.ensures.value
    (subst (λ (of : List (List Match)). In any (matches_from (slice_get c.as_slice-mine.result.now component)) ↔ In any (matches_from (slice_get of component))) c.as_slice-others.ensures.value
    (same_held_at c.as_slice-mine.result.now c.as_slice-others.result.now c.loop-index.index component c.loop-index.invariant (omega (arith, c.loop-index-test.false)) (omega (arith, c.if-mine-others.false, c.loop-index-test.false)) any))
