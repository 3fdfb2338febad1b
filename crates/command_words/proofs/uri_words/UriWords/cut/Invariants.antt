use Rattle.std.proofs.Common.{◌≡◌, take}
use Rattle.std.specs.Prelude.{filter_map}
use Rattle.command_words.specs.Tasks.{texts}
use Rattle.command_words.specs.UriWords.{cut}
use Rattle.command_words.proofs.uri_words.UriWords.cut.Given as goal

abbrev pub invariant-loop-word : goal.invariant-loop-word
invariant-loop-word l = l.uris ≡ filter_map cut (texts (take l.word-index l.words))
