use Rattle.std.proofs.Common.{refl}
use Rattle.rollback_record.proofs.FieldPlaces.{record_places}
use Rattle.rollback_record.proofs.Fields.{one_record}
use Rattle.rollback_record.proofs.OneAnswers.{one_answer}
use Rattle.rollback_record.proofs.SomeAnswers.{some_answer}
use Rattle.rollback_record.proofs.law.record_laws.Goals as goal

pub returns-clause-page : goal.returns-clause-page
returns-clause-page c = one_record

pub returns-clause-answer : goal.returns-clause-answer
returns-clause-answer c = one_answer

pub returns-clause-some : goal.returns-clause-some
returns-clause-some c = some_answer

pub returns-clause-places : goal.returns-clause-places
returns-clause-places c = record_places

pub returns-clause-lengths : goal.returns-clause-lengths
returns-clause-lengths c = record { first = refl; second = λ base. refl }
