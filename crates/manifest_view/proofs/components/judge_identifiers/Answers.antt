use Rattle.std.proofs.lemmas.Result.{err_from_is_err_and}
use Rattle.suit_manifest.specs.ComponentsReading.{identifier_at}
use Rattle.manifest_view.proofs.Elements.{judged_step, judged_ill}
use Rattle.manifest_view.proofs.components.judge_identifiers.Goals as goal

pub returns-in_err-judge_identifier : goal.returns-in_err-judge_identifier
returns-in_err-judge_identifier c =
    let p = err_from_is_err_and c.from_residual-in_err-judge_identifier.result c.from_residual-in_err-judge_identifier.ensures.1 in
    rw (p.1, p.2)
    (judged_ill identifier_at c.args.count c.loop.counter c.loop.items c.read_item.new.cursor c.in_ok-item.item _ _ c.loop-test.true c.in_ok-item.ensures.exact c.in_err-judge_identifier.ensures c.loop.invariant)

pub loop-preserved : goal.loop-preserved
loop-preserved c =
    judged_step identifier_at c.args.count c.loop.counter c.loop.items c.read_item.new.cursor c.in_ok-item.item c.in_ok-judge_identifier.field-0 _ c.loop-test.true c.in_ok-item.ensures.exact c.in_ok-judge_identifier.ensures c.loop.invariant
