use Rattle.path_model.proofs.ProcedureLaws.{plan_runs, path_rules}
use Rattle.path_model.proofs.PathLaws.{paths_begin}
use Rattle.path_model.proofs.law.procedure_laws.Goals as goal

pub returns-clause-runs : goal.returns-clause-runs
returns-clause-runs c = plan_runs

pub returns-clause-paths : goal.returns-clause-paths
returns-clause-paths c = path_rules

pub returns-clause-begin : goal.returns-clause-begin
returns-clause-begin c = paths_begin
