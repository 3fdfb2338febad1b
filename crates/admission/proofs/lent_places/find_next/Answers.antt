use Rattle.std.proofs.Common.{below_more, arith, ◌∙◌}
use Rattle.admission.proofs.LentIds.{first_lent}
use Rattle.admission.proofs.lent_places.find_next.Goals as goal

pub loop-i-preserved : goal.loop-i-preserved
loop-i-preserved c =
    let same = c.copy-again.ensures.copied ∙ c.loop-i.invariant.1 in
    let first = first_lent c.args.ids.now c.copy-again.result c.next.new.self c.next.result c.unwrap-next.result same c.next.ensures c.unwrap-next.ensures in
    (below_more _ _ c.loop-i.invariant.0 (λ has. let yes = c.is_lent.ensures.1 (has.1 c.index-entries-i.result ∙ first) in cc), c.copy-again.ensures.same ∙ c.loop-i.invariant.1)

pub returns-clause-found : goal.returns-clause-found
returns-clause-found c i has = c.loop-i.invariant.0 i (omega (arith, has.0, c.loop-i-test.false)) has
