use Rattle.path_model.proofs.ParameterLaws.{stays_whole, starts_empty, override_replaces, override_keeps, is_canonical}
use Rattle.path_model.proofs.RunLaws.{overrides_nothing, overrides_step}
use Rattle.path_model.proofs.law.overriding_laws.Goals as goal

pub returns-clause-whole : goal.returns-clause-whole
returns-clause-whole c = stays_whole

pub returns-clause-empty : goal.returns-clause-empty
returns-clause-empty c = starts_empty

pub returns-clause-replaces : goal.returns-clause-replaces
returns-clause-replaces c = override_replaces

pub returns-clause-keeps : goal.returns-clause-keeps
returns-clause-keeps c = override_keeps

pub returns-clause-canonical : goal.returns-clause-canonical
returns-clause-canonical c = is_canonical

pub returns-clause-nothing : goal.returns-clause-nothing
returns-clause-nothing c = overrides_nothing

pub returns-clause-steps : goal.returns-clause-steps
returns-clause-steps c = overrides_step
