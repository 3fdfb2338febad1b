use Rattle.command_words.proofs.Handed.{both}
use Rattle.command_words.proofs.arguments.matched.Goals as goal

pub returns-in-Ok : goal.returns-in-Ok
returns-in-Ok c = (c.in-Ok.ensures.ok.2 (both _ _ c.requires).0).0
