use Rattle.std.proofs.Common.{◌∙◌, ap, sym, codes, arith, Some}
use Rattle.command_words.specs.Tasks.{Word, texts, Diagnose}
use Rattle.command_words.specs.Table.{diag_of}
use Rattle.command_words.specs.Arguments.{app_for}
use Rattle.command_words.specs.declared.arguments.Row.TheVariants as row
use Rattle.command_words.proofs.Handed.{is_there, is_that}
use Rattle.command_words.proofs.Taken.{diags_texts}
use Rattle.command_words.proofs.rows.diag.Goals as goal

pub found-requires-clause-taken : goal.found-requires-clause-taken
found-requires-clause-taken c = (diags_texts c.args.words.now (omega arith) c.requires).takes_them

pub value_of-file-requires : goal.value_of-file-requires
value_of-file-requires c = is_there (app_for row.Diagnose) (texts c.args.words.now) _ c.in_ok-matches.ensures (codes "FILE") _ (diags_texts c.args.words.now (omega arith) c.requires).has_value

pub returns : goal.returns
returns c =
    let h = diags_texts c.args.words.now (omega arith) c.requires in
    let file = is_that (app_for row.Diagnose) (texts c.args.words.now) _ c.in_ok-matches.ensures (codes "FILE") h.value _ h.has_value c.value_of-file.ensures in
    sym (ap diag_of h.are ∙ ap (λ (w : Word). Some (Diagnose w)) file)
