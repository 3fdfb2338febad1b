use Rattle.std.proofs.Common.{◌≡◌, take}
use Rattle.command_words.specs.Tasks.{texts}
use Rattle.suit_cli.proofs.DrillWords.{asked}
use Rattle.suit_cli.proofs.drill.round.uris_of.Given as goal

abbrev pub invariant-loop-word : goal.invariant-loop-word
invariant-loop-word l = texts l.all.items ≡ asked (take l.word-index l.word-items)
