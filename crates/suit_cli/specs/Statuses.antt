-- The statuses that the program ends with.
use Rattle.std.specs.Prelude.{ℕ, List, codes}
use Rattle.suit_cli.specs.declared.reply.Object.{Object}
use Rattle.suit_cli.specs.declared.reply.Object.TheVariants as objects
use Rattle.suit_cli.specs.declared.reply.Outcome.{Outcome}
use Rattle.suit_cli.specs.declared.reply.Outcome.TheVariants as outcomes
use Rattle.suit_cli.specs.Stages.{Ending, Says, FaultOf, NoMemory}
use Rattle.suit_cli.specs.Texts.{flash_fault_line, out_of_memory_line}

abbrev pub status_of : Outcome → ℕ
status_of outcomes.Done = 0
status_of outcomes.Unsafe = 1
status_of outcomes.Usage = 2
status_of outcomes.Refused = 3
status_of outcomes.NotAuthentic = 4
status_of outcomes.TooWide = 12
status_of outcomes.Unconfigured = 13
status_of outcomes.NotBlank = 14
status_of outcomes.NothingInstalled = 15
status_of outcomes.Severed = 16
status_of outcomes.Differs = 17
status_of outcomes.UnknownComponent = 18
status_of outcomes.Absent = 20
status_of outcomes.TooLong = 21
status_of outcomes.SecondLayout = 22

abbrev pub fault_status : Object → ℕ
fault_status objects.Host = 7
fault_status objects.Flash = 8

abbrev pub fault_line : Object → List ℕ
fault_line objects.Host = codes "host fault\n"
fault_line objects.Flash = flash_fault_line

-- a fault and running out of memory have their own; so has a fault of the sink, whatever the answer was
abbrev pub ending_status : Ending → ℕ
ending_status (Says reply) = status_of reply.outcome
ending_status (FaultOf object) = fault_status object
ending_status NoMemory = 11

abbrev pub sink_fault_status : ℕ
sink_fault_status = 9

abbrev pub ending_text : Ending → List ℕ
ending_text (Says reply) = reply.text
ending_text (FaultOf object) = fault_line object
ending_text NoMemory = out_of_memory_line
