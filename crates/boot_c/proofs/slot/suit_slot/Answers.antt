use Rattle.std.proofs.Common.{rules, ◌∙◌, sym}
use Rattle.std.proofs.Math.Facts.{to_z-of_z}
use Rattle.std.specs.Int.{w32}
use Rattle.boot_c.proofs.SlotAnswers.{coded}
use Rattle.suit_answers.specs.declared.answer.Answer.TheVariants as answers
use Rattle.boot_c.proofs.slot.suit_slot.Goals as goal

pub returns-clause-slot : goal.returns-clause-slot
returns-clause-slot c done =
    let read = to_z-of_z {w = w32} {z = c.code.result} (Prim.search rules) in
    c.slot_told.ensures.slot (c.code.ensures.once answers.Done (sym read ∙ done))

pub returns-clause-within : goal.returns-clause-within
returns-clause-within c done =
    let read = to_z-of_z {w = w32} {z = c.code.result} (Prim.search rules) in
    c.slot_told.ensures.within (c.code.ensures.once answers.Done (sym read ∙ done))

pub returns-clause-every_answer : goal.returns-clause-every_answer
returns-clause-every_answer c answer held =
    let read = to_z-of_z {w = w32} {z = c.code.result} (Prim.search rules) in
    coded _ c.slot_told.result answer (read ∙ c.code.ensures.code) (c.slot_told.ensures.every_answer answer held)
