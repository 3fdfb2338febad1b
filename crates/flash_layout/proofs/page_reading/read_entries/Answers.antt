use Rattle.std.proofs.lemmas.Result.{err_from_is_err_and}
use Rattle.flash_layout.proofs.Steps.{entries_fault, entries_next}
use Rattle.flash_layout.proofs.page_reading.read_entries.Goals as goal

pub loop-i-preserved : goal.loop-i-preserved
loop-i-preserved c =
    rw c.in_ok-push.ensures.ok (entries_next c.loop-i.layout c.args.count c.loop-i.i c.args.bytes.now c.in_ok-entry.entry c.loop-i-test.true c.in_ok-entry.ensures c.loop-i.invariant)

pub returns-in_err-entry : goal.returns-in_err-entry
returns-in_err-entry c =
    let p = err_from_is_err_and c.from_residual.result c.from_residual.ensures.1 in
    rw (p.1, p.2) (entries_fault c.loop-i.layout c.args.count c.loop-i.i c.args.bytes.now c.in_err-entry.field-0.0 c.loop-i-test.true c.in_err-entry.ensures c.loop-i.invariant)
