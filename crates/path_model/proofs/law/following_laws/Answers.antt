use Rattle.path_model.proofs.Coverage.{parts_covered, same_follows}
use Rattle.path_model.proofs.law.following_laws.Goals as goal

pub returns-clause-parts : goal.returns-clause-parts
returns-clause-parts c = parts_covered

pub returns-clause-same : goal.returns-clause-same
returns-clause-same c = same_follows
