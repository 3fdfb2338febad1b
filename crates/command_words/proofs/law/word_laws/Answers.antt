use Rattle.command_words.proofs.TableReads.{laws}
use Rattle.command_words.proofs.law.word_laws.Goals as goal

pub returns : goal.returns
returns c = laws
