use Rattle.std.proofs.Common.{◌∙◌, ap, sym, codes, arith, Some}
use Rattle.command_words.specs.Tasks.{Word, texts, Init}
use Rattle.command_words.specs.Arguments.{app_for}
use Rattle.command_words.specs.declared.arguments.Row.TheVariants as row
use Rattle.command_words.proofs.Handed.{is_there, is_that}
use Rattle.command_words.proofs.Taken.{inits_texts}
use Rattle.command_words.proofs.rows.init.Goals as goal

pub found-requires-clause-taken : goal.found-requires-clause-taken
found-requires-clause-taken c = (inits_texts c.args.words.now (omega arith) c.requires).takes_them

pub value_of-device-requires : goal.value_of-device-requires
value_of-device-requires c = is_there (app_for row.Init) (texts c.args.words.now) _ c.in_ok-matches.ensures (codes "DEVICE") _ (inits_texts c.args.words.now (omega arith) c.requires).has_device

pub value_of-key-requires : goal.value_of-key-requires
value_of-key-requires c = is_there (app_for row.Init) (texts c.args.words.now) _ c.in_ok-matches.ensures (codes "KEY") _ (inits_texts c.args.words.now (omega arith) c.requires).has_key

pub returns : goal.returns
returns c =
    let words = texts c.args.words.now in
    let h = inits_texts c.args.words.now (omega arith) c.requires in
    let device = is_that (app_for row.Init) words _ c.in_ok-matches.ensures (codes "DEVICE") h.device _ h.has_device c.value_of-device.ensures in
    let key = is_that (app_for row.Init) words _ c.in_ok-matches.ensures (codes "KEY") h.key _ h.has_key c.value_of-key.ensures in
    sym (h.table ∙ ap (λ (w : Word). Some (Init w h.key)) device ∙ ap (λ (w : Word). Some (Init c.value_of-device.result.now w)) key)
