use Rattle.path_model.proofs.SelectionLaws.{selections, index_selects, selection_kept, one_selected, none_selected, more_selected}
use Rattle.path_model.proofs.law.selection_laws.Goals as goal

pub returns-clause-selections : goal.returns-clause-selections
returns-clause-selections c = selections

pub returns-clause-index : goal.returns-clause-index
returns-clause-index c = index_selects

pub returns-clause-kept : goal.returns-clause-kept
returns-clause-kept c = selection_kept

pub returns-clause-one : goal.returns-clause-one
returns-clause-one c = one_selected

pub returns-clause-none : goal.returns-clause-none
returns-clause-none c = none_selected

pub returns-clause-more : goal.returns-clause-more
returns-clause-more c = more_selected
