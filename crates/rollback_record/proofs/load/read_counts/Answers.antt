use Rattle.std.proofs.Common.{ℕ, List, subst}
use Rattle.rollback_record.specs.RecordPage.{CountSlots}
use Rattle.rollback_record.proofs.load.read_counts.Goals as goal

pub returns-in-Done-clause-slots : goal.returns-in-Done-clause-slots
returns-in-Done-clause-slots g c t = subst (λ (l : List ℕ). CountSlots c.args.frame l c.counts_on.result) (c.in-Done.ensures.bytes t) c.counts_on.ensures
