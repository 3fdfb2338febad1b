use Rattle.std.proofs.Common.{◌≡◌, ◌∙◌, ◌≤◌, ap, sym, codes, length, arith, Option, Some, None, option_map, Bor, List}
use Rattle.command_words.specs.Tasks.{Word, texts}
use Rattle.command_words.specs.Words.{is_plain}
use Rattle.std.specs.List.{list_all}
use Rattle.std.specs.Prelude.{true}
use Rattle.command_words.specs.Arguments.{app_for}
use Rattle.command_words.specs.declared.arguments.Row.TheVariants as row
use Rattle.command_words.proofs.Handed.{is_there, is_that, found_in}
use Rattle.command_words.proofs.TextLists.{as_many}
use Rattle.command_words.proofs.Taken.{Shows, shows, shown}
use Rattle.command_words.proofs.rows.show.Goals as goal

shows_texts : (words : List (Bor Word)) → 2 ≤ length words → length words ≤ 3 → list_all is_plain (texts words) ≡ true → Shows (texts words)
shows_texts words some few plain = let many = as_many words in shows (texts words) (omega arith) (omega arith) plain

pub found-requires-clause-taken : goal.found-requires-clause-taken
found-requires-clause-taken c =
    let h = shows_texts c.args.words.now (omega arith) (omega arith) c.requires in
    h.takes_them

pub value_of-file-requires : goal.value_of-file-requires
value_of-file-requires c =
    let h = shows_texts c.args.words.now (omega arith) (omega arith) c.requires in
    is_there (app_for row.Show) (texts c.args.words.now) _ c.in_ok-matches.ensures (codes "FILE") h.file h.has_file

pub returns-in-Some : goal.returns-in-Some
returns-in-Some c =
    let words = texts c.args.words.now in
    let h = shows_texts c.args.words.now (omega arith) (omega arith) c.requires in
    let file = is_that (app_for row.Show) words _ c.in_ok-matches.ensures (codes "FILE") h.file _ h.has_file c.value_of-file.ensures in
    let key : h.key ≡ Some c.in-Some.key.now =
    sym h.has_key ∙ sym (found_in (app_for row.Show) words _ c.in_ok-matches.ensures (codes "KEY")) ∙ sym c.option_of.ensures
    ∙ ap (option_map (λ (s : Bor Word). s.now)) c.in-Some.is in
    sym (h.table ∙ ap (λ (w : Word). Some (shown w h.key)) file ∙ ap (λ (k : Option Word). Some (shown c.value_of-file.result.now k)) key)

pub returns : goal.returns
returns c =
    let words = texts c.args.words.now in
    let h = shows_texts c.args.words.now (omega arith) (omega arith) c.requires in
    let file = is_that (app_for row.Show) words _ c.in_ok-matches.ensures (codes "FILE") h.file _ h.has_file c.value_of-file.ensures in
    let key : h.key ≡ None =
    sym h.has_key ∙ sym (found_in (app_for row.Show) words _ c.in_ok-matches.ensures (codes "KEY")) ∙ sym c.option_of.ensures
    ∙ ap (option_map (λ (s : Bor Word). s.now)) c.in-None.is in
    sym (h.table ∙ ap (λ (w : Word). Some (shown w h.key)) file ∙ ap (λ (k : Option Word). Some (shown c.value_of-file.result.now k)) key)
