use Rattle.std.proofs.Common.{◌≡◌, take}
use Rattle.command_words.specs.Tasks.{texts}
use Rattle.suit_cli.proofs.words.lent.Given as goal

abbrev pub invariant-loop-word : goal.invariant-loop-word
invariant-loop-word l = texts l.lent.items ≡ take l.word-index l.word-items
