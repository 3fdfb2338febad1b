use Rattle.flash_layout.proofs.Laws.{one_config}
use Rattle.flash_layout.proofs.OneAnswers.{one_answer}
use Rattle.flash_layout.proofs.law.config_laws.Goals as goal

pub returns-clause-page : goal.returns-clause-page
returns-clause-page c = one_config

pub returns-clause-answer : goal.returns-clause-answer
returns-clause-answer c = one_answer one_config
