use Rattle.std.proofs.Common.{◌∙◌, ap}
use Rattle.std.proofs.lemmas.Result.{IfOk-weaker}
use Rattle.std.specs.Prelude.{◌-◌, drop, length, take}
use Rattle.clap.specs.Simple.{App, matches_of}
use Rattle.clap.specs.Takes.{takes}
use Rattle.command_words.specs.Tasks.{texts}
use Rattle.command_words.specs.Arguments.{app_for}
use Rattle.command_words.proofs.Handed.{taken}
use Rattle.command_words.proofs.TextLists.{behind_first}
use Rattle.command_words.proofs.arguments.found.Goals as goal

pub matched-requires : goal.matched-requires
matched-requires c =
    let words = c.args.words.now in
    taken (app_for c.args.row) (texts (take (length words - 1) (drop 1 words))) c.in_ok-command.command c.in_ok-command.ensures
    (ap (takes (app_for c.args.row)) (behind_first words) ∙ c.requires.taken)

pub returns : goal.returns
returns c =
    let words = c.args.words.now in
    IfOk-weaker c.matched.result _ _
    (λ matches are. are ∙ ap (λ (a : App). matches_of a (texts (take (length words - 1) (drop 1 words)))) c.in_ok-command.ensures
    ∙ ap (matches_of (app_for c.args.row)) (behind_first words)) c.matched.ensures
