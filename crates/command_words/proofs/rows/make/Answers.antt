use Rattle.std.proofs.Common.{◌∙◌, ap, sym, codes, arith, Some}
use Rattle.command_words.specs.Tasks.{Word, texts, Make}
use Rattle.command_words.specs.Arguments.{app_for}
use Rattle.command_words.specs.declared.arguments.Row.TheVariants as row
use Rattle.command_words.proofs.Handed.{is_there, is_that}
use Rattle.command_words.proofs.Taken.{makes_texts}
use Rattle.command_words.proofs.rows.make.Goals as goal

pub found-requires-clause-taken : goal.found-requires-clause-taken
found-requires-clause-taken c = (makes_texts c.args.words.now (omega arith) c.requires).takes_them

pub value_of-description-requires : goal.value_of-description-requires
value_of-description-requires c = is_there (app_for row.Make) (texts c.args.words.now) _ c.in_ok-matches.ensures (codes "DESCRIPTION") _ (makes_texts c.args.words.now (omega arith) c.requires).has_description

pub value_of-key-requires : goal.value_of-key-requires
value_of-key-requires c = is_there (app_for row.Make) (texts c.args.words.now) _ c.in_ok-matches.ensures (codes "KEY") _ (makes_texts c.args.words.now (omega arith) c.requires).has_key

pub value_of-out-requires : goal.value_of-out-requires
value_of-out-requires c = is_there (app_for row.Make) (texts c.args.words.now) _ c.in_ok-matches.ensures (codes "OUT") _ (makes_texts c.args.words.now (omega arith) c.requires).has_out

pub returns : goal.returns
returns c =
    let words = texts c.args.words.now in
    let h = makes_texts c.args.words.now (omega arith) c.requires in
    let description = is_that (app_for row.Make) words _ c.in_ok-matches.ensures (codes "DESCRIPTION") h.description _ h.has_description c.value_of-description.ensures in
    let key = is_that (app_for row.Make) words _ c.in_ok-matches.ensures (codes "KEY") h.key _ h.has_key c.value_of-key.ensures in
    let out = is_that (app_for row.Make) words _ c.in_ok-matches.ensures (codes "OUT") h.out _ h.has_out c.value_of-out.ensures in
    sym (h.table ∙ ap (λ (w : Word). Some (Make w h.key h.out)) description ∙ ap (λ (w : Word). Some (Make c.value_of-description.result.now w h.out)) key
    ∙ ap (λ (w : Word). Some (Make c.value_of-description.result.now c.value_of-key.result.now w)) out)
