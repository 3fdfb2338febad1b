use Rattle.std.proofs.Common.{rules, ◌∙◌, ap, inl, inr, sym}
use Rattle.std.proofs.Math.Facts.{to_z-of_z}
use Rattle.std.specs.Int.{w32}
use Rattle.check_c.proofs.Answered.{coded}
use Rattle.suit_answers.specs.Answers.{code_of}
use Rattle.suit_answers.specs.declared.answer.Answer.TheVariants as answers
use Rattle.check_c.proofs.checking.suit_check.Goals as goal

pub returns-clause-refused : goal.returns-clause-refused
returns-clause-refused c told =
    let read = to_z-of_z {w = w32} {z = c.code.result} (Prim.search rules) in
    c.judge_file.ensures.refused (c.code.ensures.once answers.Refused (sym read ∙ told))

pub returns-clause-not_safe : goal.returns-clause-not_safe
returns-clause-not_safe c (inl told) =
    let read = to_z-of_z {w = w32} {z = c.code.result} (Prim.search rules) in
    let found = c.judge_file.ensures.not_safe (inl (c.code.ensures.once answers.Unsafe (sym read ∙ told))) in
    (found.0, read ∙ c.code.ensures.code ∙ ap code_of found.1, found.2)
returns-clause-not_safe c (inr told) =
    let read = to_z-of_z {w = w32} {z = c.code.result} (Prim.search rules) in
    let found = c.judge_file.ensures.not_safe (inr (c.code.ensures.once answers.TooWide (sym read ∙ told))) in
    (found.0, read ∙ c.code.ensures.code ∙ ap code_of found.1, found.2)

pub returns-clause-every_answer : goal.returns-clause-every_answer
returns-clause-every_answer c answer refused =
    let read = to_z-of_z {w = w32} {z = c.code.result} (Prim.search rules) in
    coded _ c.judge_file.result answer (read ∙ c.code.ensures.code) (c.judge_file.ensures.every_answer answer refused)

pub returns-clause-stays : goal.returns-clause-stays
returns-clause-stays c other =
    let read = to_z-of_z {w = w32} {z = c.code.result} (Prim.search rules) in
    c.judge_file.ensures.stays (λ told. other (read ∙ c.code.ensures.code ∙ ap code_of told))
