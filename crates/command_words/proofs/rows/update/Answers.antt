use Rattle.std.proofs.Common.{◌∙◌, ap, sym, codes, arith, Some, None, option_map, Bor, List}
use Rattle.command_words.specs.Tasks.{Word, texts}
use Rattle.command_words.specs.Arguments.{app_for}
use Rattle.command_words.specs.declared.arguments.Row.TheVariants as row
use Rattle.command_words.proofs.Handed.{is_there}
use Rattle.command_words.proofs.UpdateWords.{updates_texts, handed}
use Rattle.command_words.proofs.rows.update.Goals as goal

pub found-requires-clause-taken : goal.found-requires-clause-taken
found-requires-clause-taken c = (updates_texts c.args.words.now (omega arith) c.if-answers-gt-MOST_URIS.false c.requires).takes_them

pub value_of-file-requires : goal.value_of-file-requires
value_of-file-requires c =
    let h = updates_texts c.args.words.now (omega arith) c.if-answers-gt-MOST_URIS.false c.requires in
    is_there (app_for row.Update) (texts c.args.words.now) _ c.in_ok-matches.ensures (codes "FILE") h.first h.has_file

pub returns-in-Some : goal.returns-in-Some
returns-in-Some c =
    let got = ap (option_map (λ (s : Bor (List (Bor Word))). texts s.now)) (sym c.in-Some.is) ∙ c.values_of.ensures in
    handed c.args.words.now (omega arith) c.if-answers-gt-MOST_URIS.false c.requires _ c.in_ok-matches.ensures (sym c.are_answers.ensures ∙ c.if-not-are_answers.false)
    c.value_of-file.result.now c.value_of-file.ensures (Some (texts c.in-Some.answers.now)) got c.in_ok-uris-in-Some.uris c.in_ok-uris-in-Some.ensures

pub returns : goal.returns
returns c =
    let got = ap (option_map (λ (s : Bor (List (Bor Word))). texts s.now)) (sym c.in-None.is) ∙ c.values_of.ensures in
    handed c.args.words.now (omega arith) c.if-answers-gt-MOST_URIS.false c.requires _ c.in_ok-matches.ensures (sym c.are_answers.ensures ∙ c.if-not-are_answers.false)
    c.value_of-file.result.now c.value_of-file.ensures None got c.new-uris.result c.new-uris.ensures
