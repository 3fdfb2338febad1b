use Rattle.path_model.proofs.CommandLaws.{conditions_end, conditions_need, abort_fails, identity_decides, identity_followed, identity_needed, match_is_free, content_is_free}
use Rattle.path_model.proofs.law.condition_laws.Goals as goal

pub returns-clause-ends : goal.returns-clause-ends
returns-clause-ends c = conditions_end

pub returns-clause-needs : goal.returns-clause-needs
returns-clause-needs c = conditions_need

pub returns-clause-abort : goal.returns-clause-abort
returns-clause-abort c = abort_fails

pub returns-clause-decides : goal.returns-clause-decides
returns-clause-decides c = identity_decides

pub returns-clause-follows : goal.returns-clause-follows
returns-clause-follows c = identity_followed

pub returns-clause-needed : goal.returns-clause-needed
returns-clause-needed c = identity_needed

pub returns-clause-matches : goal.returns-clause-matches
returns-clause-matches c = match_is_free

pub returns-clause-content : goal.returns-clause-content
returns-clause-content c = content_is_free
