-- The number of each answer: the exit status of the program for the same outcome.
use Rattle.std.specs.Prelude.{ℤ, pos}
use Rattle.suit_answers.specs.declared.answer.Answer.{Answer}
use Rattle.suit_answers.specs.declared.answer.Answer.TheVariants as answers

abbrev pub code_of : Answer → ℤ
code_of answers.Done = pos 0
code_of answers.Unsafe = pos 1
code_of answers.Refused = pos 3
code_of answers.NotAuthentic = pos 4
code_of answers.Stopped = pos 6
code_of answers.HostFault = pos 7
code_of answers.FlashFault = pos 8
code_of answers.LaunchFault = pos 10
code_of answers.NoMemory = pos 11
code_of answers.TooWide = pos 12
code_of answers.Unconfigured = pos 13
code_of answers.NothingInstalled = pos 15
code_of answers.Severed = pos 16
code_of answers.Differs = pos 17
code_of answers.UnknownComponent = pos 18
code_of answers.TooLong = pos 21
