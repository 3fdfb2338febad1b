-- What a command of the code asks for.
use Rattle.command_words.specs.Tasks.{Task, Make, Describe, Show, Check, Init, Update, Boot, Status, Migrate, Drill, Diagnose}
use Rattle.command_words.specs.declared.command.Command.{Command}
use Rattle.command_words.specs.declared.command.Command.TheVariants as commands

abbrev pub said : Command → Task
said (commands.Make description key out) = Make description.now key.now out.now
said (commands.Describe file) = Describe file.now
said (commands.Show file key) = Show file.now key.now
said (commands.Check file) = Check file.now
said (commands.Init device key) = Init device.now key.now
said (commands.Update file uris) = Update file.now uris
said commands.Boot = Boot
said commands.Status = Status
said (commands.Migrate base) = Migrate base
said (commands.Drill number) = Drill number
said (commands.Diagnose file) = Diagnose file.now
