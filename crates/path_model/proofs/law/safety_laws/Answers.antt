use Rattle.path_model.proofs.Coverage.{safety_is, ends_at_first, first_is_one, bad_path_is, bad_path_refutes}
use Rattle.path_model.proofs.law.safety_laws.Goals as goal

pub returns-clause-safe : goal.returns-clause-safe
returns-clause-safe c = safety_is

pub returns-clause-last : goal.returns-clause-last
returns-clause-last c = ends_at_first

pub returns-clause-first : goal.returns-clause-first
returns-clause-first c = first_is_one

pub returns-clause-bad : goal.returns-clause-bad
returns-clause-bad c = bad_path_is

pub returns-clause-refutes : goal.returns-clause-refutes
returns-clause-refutes c = bad_path_refutes
