use Rattle.std.proofs.Common.{rules, ◌≡◌, ◌<◌, [], ◌∷◌, ◌++◌, sym, ap, ◌∙◌}
use Rattle.std.specs.Vec.{vec_len}
use Rattle.path_checker.proofs.DirectiveLeaves.{never_true}
use Rattle.path_checker.proofs.Merging.{Left-start, Left-found, Left-pushed, Left-none, none_more}
use Rattle.path_checker.proofs.judge_plan.merged.merged.Goals as goal

pub loop-one-init : goal.loop-one-init
loop-one-init g c = Left-start g.T.Standing.same c.args.from.items c.new-kept.result.items c.new-kept.ensures.items

pub loop-one-preserved-then-stands_for : goal.loop-one-preserved-then-stands_for
loop-one-preserved-then-stands_for g c = Left-found g.T.Standing.same c.args.from.items c.loop-one.left.items c.fit.new.left.items c.loop-one.kept.items _ c.in-Some.one c.loop-one.invariant (c.in-Some.ensures.items ∙ ap (λ xs. xs ++ c.in-Some.one ∷ []) (sym c.fit.ensures)) c.deref.ensures.value (c.if-stands_for.ensures (search rules))

pub loop-one-preserved : goal.loop-one-preserved
loop-one-preserved g c = Left-pushed g.T.Standing.same c.args.from.items c.loop-one.left.items c.fit.new.left.items c.loop-one.kept.items _ c.in-Some.one c.loop-one.invariant (c.in-Some.ensures.items ∙ ap (λ xs. xs ++ c.in-Some.one ∷ []) (sym c.fit.ensures)) (c.requires c.in-Some.one) c.in_ok-push.ensures.items

pub returns : goal.returns
returns g c =
    let none : c.loop-one.left.items ≡ [] = none_more c.loop-one.left.items (λ lt. let l : 0 < vec_len c.loop-one.left = search rules in never_true (c.in_default.ensures.variant.1 l)) in
    Left-none g.T.Standing.same c.args.from.items c.loop-one.left.items c.loop-one.kept.items c.loop-one.invariant none
