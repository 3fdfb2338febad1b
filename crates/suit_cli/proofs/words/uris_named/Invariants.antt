use Rattle.std.proofs.Common.{◌≡◌, map, take}
use Rattle.command_words.specs.UriWords.{answer_said}
use Rattle.suit_cli.specs.Words.{pairs_of}
use Rattle.suit_cli.proofs.words.uris_named.Given as goal

abbrev pub invariant-loop-word : goal.invariant-loop-word
invariant-loop-word l = l.uris ≡ pairs_of (map answer_said (take l.word-index l.words))
