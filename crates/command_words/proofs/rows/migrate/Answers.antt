use Rattle.std.proofs.Common.{◌∙◌, ap, sym, codes, arith, option_map}
use Rattle.command_words.specs.Tasks.{Word, texts, Migrate}
use Rattle.command_words.specs.Numbers.{number_of}
use Rattle.command_words.specs.Table.{migrate_of}
use Rattle.command_words.specs.Arguments.{app_for}
use Rattle.command_words.specs.declared.arguments.Row.TheVariants as row
use Rattle.command_words.proofs.Handed.{is_there, is_that}
use Rattle.command_words.proofs.Taken.{migrates_texts}
use Rattle.command_words.proofs.rows.migrate.Goals as goal

pub found-requires-clause-taken : goal.found-requires-clause-taken
found-requires-clause-taken c =
    let h = migrates_texts c.args.words.now (omega arith) c.requires in
    h.takes_them

pub value_of-requires : goal.value_of-requires
value_of-requires c =
    let h = migrates_texts c.args.words.now (omega arith) c.requires in
    is_there (app_for row.Migrate) (texts c.args.words.now) _ c.in_ok-matches.ensures (codes "BASE") h.value h.has_value

pub returns-in-Some : goal.returns-in-Some
returns-in-Some c =
    let words = texts c.args.words.now in
    let h = migrates_texts c.args.words.now (omega arith) c.requires in
    let number = is_that (app_for row.Migrate) words _ c.in_ok-matches.ensures (codes "BASE") h.value _ h.has_value c.value_of.ensures in
    sym (ap migrate_of h.are ∙ ap (λ (w : Word). option_map Migrate (number_of w)) number ∙ ap (option_map Migrate) (sym c.number_of-2.ensures ∙ c.in-Some.is))

pub returns : goal.returns
returns c =
    let words = texts c.args.words.now in
    let h = migrates_texts c.args.words.now (omega arith) c.requires in
    let number = is_that (app_for row.Migrate) words _ c.in_ok-matches.ensures (codes "BASE") h.value _ h.has_value c.value_of.ensures in
    sym (ap migrate_of h.are ∙ ap (λ (w : Word). option_map Migrate (number_of w)) number ∙ ap (option_map Migrate) (sym c.number_of-2.ensures ∙ c.in-None.is))
