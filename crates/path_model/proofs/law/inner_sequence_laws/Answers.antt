use Rattle.path_model.proofs.RunLaws.{run_sequence_rules, branches_rules, last_branch_rules}
use Rattle.path_model.proofs.PathLaws.{inner_goes_back}
use Rattle.path_model.proofs.law.inner_sequence_laws.Goals as goal

pub returns-clause-run : goal.returns-clause-run
returns-clause-run c = run_sequence_rules

pub returns-clause-branches : goal.returns-clause-branches
returns-clause-branches c = branches_rules

pub returns-clause-last : goal.returns-clause-last
returns-clause-last c = last_branch_rules

pub returns-clause-back : goal.returns-clause-back
returns-clause-back c = inner_goes_back
