use Rattle.path_model.proofs.TwoComponents.{two_components_run}
use Rattle.path_model.proofs.Unsafe.{two_components_unsafe}
use Rattle.path_model.proofs.law.example_laws.Goals as goal

pub returns-clause-runs : goal.returns-clause-runs
returns-clause-runs c = two_components_run

pub returns-clause-not_safe : goal.returns-clause-not_safe
returns-clause-not_safe c = two_components_unsafe
