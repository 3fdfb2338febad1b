use Rattle.std.proofs.Common.{◌≡◌, ◌∙◌, Some, None, sym, ap, take, take_all, arith}
use Rattle.command_words.specs.Tasks.{texts}
use Rattle.suit_cli.specs.Words.{pairs_of}
use Rattle.suit_cli.proofs.DrillWords.{asked, asked_uris}
use Rattle.suit_cli.proofs.drill.round.uris_of.Goals as goal

pub unreachable-requires : goal.unreachable-requires
unreachable-requires c =
    let items : take c.loop-word.word-index c.as_slice-word-items.result.now ≡ c.as_slice-word-items.result.now =
    take_all c.loop-word.word-index c.as_slice-word-items.result.now (omega (arith, c.loop-word-test.false)) in
    let told : texts c.as_slice.result.now ≡ asked c.args.words.now = ap texts c.as_slice.ensures.value ∙ c.loop-word.invariant ∙ ap asked (items ∙ c.as_slice-word-items.ensures) in
    let uris = asked_uris c.args.words.now c.requires _ told _ c.in_ok-command.ensures.table c.in_ok-uris.uris c.in_ok-uris.ensures in
    let never : None ≡ Some (pairs_of uris.0) = sym c.in-None.is ∙ uris.1 in
    absurd cc
