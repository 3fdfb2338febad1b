use Rattle.std.proofs.Common.{rules, ◌≡◌, ◌∙◌, IfSome, Option, ap, subst, sym}
use Rattle.std.specs.Option.{is_some}
use Rattle.std.proofs.Math.Facts.{to_z-of_z}
use Rattle.std.specs.Int.{w32}
use Rattle.boot_c.proofs.Images.{no_host}
use Rattle.boot_c.specs.Images.{Starts}
use Rattle.boot_c.specs.declared.image.SuitImage.{SuitImage}
use Rattle.suit_answers.specs.Answers.{code_of}
use Rattle.suit_answers.specs.declared.answer.Answer.TheVariants as answers
use Rattle.boot_c.proofs.booting.suit_boot.Goals as goal

pub returns-in-None-clause-none : goal.returns-in-None-clause-none
returns-in-None-clause-none c done other =
    let read = to_z-of_z {w = w32} {z = c.code-in-None.result} (Prim.search rules) in
    c.boot_from-answer.ensures.none (c.code-in-None.ensures.once answers.Done (sym read ∙ done)) (ap is_some c.in-None.is)

pub returns-in-Some-clause-answers : goal.returns-in-Some-clause-answers
returns-in-Some-clause-answers c =
    let read = to_z-of_z {w = w32} {z = c.code.result} (Prim.search rules) in
    let one = subst (λ (i : Option SuitImage). IfSome i (λ image. (c.boot_from-answer.result.answer ≡ answers.Done) × (image.found ≡ 1) × Starts c.args.flash.now image)) c.in-Some.is c.boot_from-answer.ensures.image in
    (c.boot_from-answer.result.answer, read ∙ c.code.ensures.code ∙ ap code_of (sym one.0), c.boot_from-answer.ensures.answers)

pub returns-in-None-clause-no_host : goal.returns-in-None-clause-no_host
returns-in-None-clause-no_host c is =
    let read = to_z-of_z {w = w32} {z = c.code-in-None.result} (Prim.search rules) in
    no_host c.args.flash.now c.boot_from-answer.result.answer c.boot_from-answer.ensures.answers (c.code-in-None.ensures.once answers.HostFault (sym read ∙ is))

pub returns-in-Some-clause-no_host : goal.returns-in-Some-clause-no_host
returns-in-Some-clause-no_host c is =
    let read = to_z-of_z {w = w32} {z = c.code.result} (Prim.search rules) in
    let done : answers.Done ≡ answers.HostFault = c.code.ensures.once answers.HostFault (sym read ∙ is) in
    absurd cc
