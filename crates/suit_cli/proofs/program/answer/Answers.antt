use Rattle.std.proofs.Common.{refl, sym, ap, ◌∙◌, Option}
use Rattle.std.specs.Prelude.{option_map}
use Rattle.command_words.specs.Tasks.{texts}
use Rattle.command_words.specs.Said.{said}
use Rattle.suit_cli.specs.Words.{task_of}
use Rattle.command_words.specs.declared.command.Command.{Command}
use Rattle.suit_cli.proofs.BootAnswers.{comes_starved, comes_usage, comes_task}
use Rattle.suit_cli.proofs.Sounding.{flash_by, flash_unmoved, if_boots, if_boots_by}
use Rattle.suit_cli.proofs.program.answer.Goals as goal

pub returns-in-Err-clause-answer : goal.returns-in-Err-clause-answer
returns-in-Err-clause-answer g c = comes_starved c.args.words.now _ _

pub returns-clause-answer : goal.returns-clause-answer
returns-clause-answer g c = comes_starved c.args.words.now _ _

pub returns-in-Ok-None-clause-answer : goal.returns-in-Ok-None-clause-answer
returns-in-Ok-None-clause-answer g c =
    comes_usage c.args.words.now _ _ c.fixed.result c.declined.result (sym (ap task_of (ap texts c.as_slice.ensures.value ∙ c.in-Ok.ensures)) ∙ sym c.in-Ok-None.ensures.table
    ∙ ap (λ (o : Option Command). option_map said o) c.in-Ok-None.field-0-is)
    c.fixed.ensures c.declined.ensures

pub returns-in-Ok-Some-clause-answer : goal.returns-in-Ok-Some-clause-answer
returns-in-Ok-Some-clause-answer g c =
    comes_task c.args.words.now (said c.in-Ok-Some.command)
    (sym (ap task_of (ap texts c.as_slice.ensures.value ∙ c.in-Ok.ensures)) ∙ sym c.in-Ok-Some.ensures.table
    ∙ ap (λ (o : Option Command). option_map said o) c.in-Ok-Some.field-0-is)
    _ _ _ _ _ c.perform.ensures.answer

pub returns-in-Err-clause-unasked : goal.returns-in-Err-clause-unasked
returns-in-Err-clause-unasked g c = if_boots (task_of c.args.words.now) _ refl

pub returns-clause-unasked : goal.returns-clause-unasked
returns-clause-unasked g c = if_boots (task_of c.args.words.now) _ refl

pub returns-in-Ok-None-clause-unasked : goal.returns-in-Ok-None-clause-unasked
returns-in-Ok-None-clause-unasked g c = if_boots (task_of c.args.words.now) _ refl

pub returns-in-Ok-Some-clause-unasked : goal.returns-in-Ok-Some-clause-unasked
returns-in-Ok-Some-clause-unasked g c =
    if_boots_by _ _ _
    (sym (ap task_of (ap texts c.as_slice.ensures.value ∙ c.in-Ok.ensures)) ∙ sym c.in-Ok-Some.ensures.table
    ∙ ap (λ (o : Option Command). option_map said o) c.in-Ok-Some.field-0-is)
    c.perform.ensures.unasked

pub returns-in-Err-clause-flash : goal.returns-in-Err-clause-flash
returns-in-Err-clause-flash g c told = flash_unmoved c.sound_laws.ensures (task_of c.args.words.now) _ _ _ _ (g.D.Disk.flash c.args.flash.now)

pub returns-clause-flash : goal.returns-clause-flash
returns-clause-flash g c told = flash_unmoved c.sound_laws.ensures (task_of c.args.words.now) _ _ _ _ (g.D.Disk.flash c.args.flash.now)

pub returns-in-Ok-None-clause-flash : goal.returns-in-Ok-None-clause-flash
returns-in-Ok-None-clause-flash g c told = flash_unmoved c.sound_laws.ensures (task_of c.args.words.now) _ _ _ _ (g.D.Disk.flash c.args.flash.now)

pub returns-in-Ok-Some-clause-flash : goal.returns-in-Ok-Some-clause-flash
returns-in-Ok-Some-clause-flash g c told =
    flash_by _ _
    (sym (ap task_of (ap texts c.as_slice.ensures.value ∙ c.in-Ok.ensures)) ∙ sym c.in-Ok-Some.ensures.table
    ∙ ap (λ (o : Option Command). option_map said o) c.in-Ok-Some.field-0-is)
    _ _ _ (c.perform.ensures.flash told)
