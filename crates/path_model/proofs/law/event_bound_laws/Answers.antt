use Rattle.path_model.proofs.EventBounds.{counts_events, paths_bounded}
use Rattle.path_model.proofs.law.event_bound_laws.Goals as goal

pub returns-clause-counted : goal.returns-clause-counted
returns-clause-counted c = counts_events

pub returns-clause-bounded : goal.returns-clause-bounded
returns-clause-bounded c = paths_bounded
