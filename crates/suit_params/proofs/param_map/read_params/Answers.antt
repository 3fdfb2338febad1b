use Rattle.suit_params.proofs.ParamAnswers.{ok_takes, err_refuses, every_list, every_refusal}
use Rattle.suit_params.proofs.param_map.read_params.Goals as goal

pub returns-clause-ok : goal.returns-clause-ok
returns-clause-ok c = ok_takes _ _ _ c.params_ahead.result c.params_ahead.ensures.bytes c.params_ahead.ensures.exact

pub returns-clause-refused : goal.returns-clause-refused
returns-clause-refused c = err_refuses _ _ _ c.params_ahead.result c.params_ahead.ensures.bytes c.params_ahead.ensures.exact

pub returns-clause-every_list : goal.returns-clause-every_list
returns-clause-every_list c = every_list _ _ _ c.params_ahead.result c.params_ahead.ensures.bytes c.params_ahead.ensures.exact

pub returns-clause-every_refusal : goal.returns-clause-every_refusal
returns-clause-every_refusal c = every_refusal _ _ _ c.params_ahead.result c.params_ahead.ensures.bytes c.params_ahead.ensures.exact
