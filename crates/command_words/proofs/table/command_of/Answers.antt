use Rattle.std.proofs.Common.{option_map}
use Rattle.std.proofs.lemmas.Result.{IfOk-weaker}
use Rattle.command_words.specs.Tasks.{texts}
use Rattle.command_words.specs.Said.{said}
use Rattle.command_words.proofs.TableReads.{asked}
use Rattle.command_words.proofs.table.command_of.Goals as goal

pub returns : goal.returns
returns c = record {
  spelled = IfOk-weaker c.in_table.result _ _ (λ found is. asked (texts c.args.words.now) (option_map said found) is) c.in_table.ensures;
  table = c.in_table.ensures;
}
