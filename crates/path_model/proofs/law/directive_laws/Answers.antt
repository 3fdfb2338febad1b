use Rattle.path_model.proofs.CommandLaws.{directives_write, directives_need, invokes_tell}
use Rattle.path_model.proofs.law.directive_laws.Goals as goal

pub returns-clause-writes : goal.returns-clause-writes
returns-clause-writes c = directives_write

pub returns-clause-needs : goal.returns-clause-needs
returns-clause-needs c = directives_need

pub returns-clause-invokes : goal.returns-clause-invokes
returns-clause-invokes c = invokes_tell
