use Rattle.rollback_record.proofs.SlotCounts.{of_layout}
use Rattle.rollback_record.proofs.load.load_pages_by.Goals as goal

pub returns-clause-exact : goal.returns-clause-exact
returns-clause-exact g c t =
    let config = c.requires.config t in
    c.load_beside.ensures.exact t (of_layout c.args.frame _ _ c.args.layout.now config.0 c.counts_in-slots.result config.1 c.counts_in-slots.ensures)
