use Rattle.path_model.proofs.OneRun.{one_run}
use Rattle.path_model.proofs.law.one_run_laws.Goals as goal

pub returns : goal.returns
returns c = one_run
