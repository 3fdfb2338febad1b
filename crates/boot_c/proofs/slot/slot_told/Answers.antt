use Rattle.std.proofs.Common.{inr, refl}
use Rattle.boot_c.proofs.SlotAnswers.{told_held}
use Rattle.boot_c.specs.SlotAnswers.{InUse}
use Rattle.suit_answers.specs.declared.answer.Answer.TheVariants as answers
use Rattle.boot_c.proofs.slot.slot_told.Goals as goal

pub returns-in-Ok-clause-answers : goal.returns-in-Ok-clause-answers
returns-in-Ok-clause-answers c = inr (InUse c.in-Ok.slot c.in-Ok.ensures.slot refl)

pub returns-in-Ok-clause-every_answer : goal.returns-in-Ok-clause-every_answer
returns-in-Ok-clause-every_answer c answer held = told_held c.config_laws.ensures.answer c.record_laws.ensures.answer c.args.flash.now c.args.component answers.Done answer (returns-in-Ok-clause-answers c) held

pub returns-in-Err-clause-every_answer : goal.returns-in-Err-clause-every_answer
returns-in-Err-clause-every_answer c answer held = told_held c.config_laws.ensures.answer c.record_laws.ensures.answer c.args.flash.now c.args.component c.in-Err.answer answer c.in-Err.ensures.answers held
