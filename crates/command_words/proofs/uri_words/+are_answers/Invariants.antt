use Rattle.std.proofs.Common.{length}
use Rattle.command_words.proofs.uri_words.+are_answers.Given as goal

abbrev pub decreases-are_answers : goal.decreases-are_answers
decreases-are_answers l = length l.words.now
