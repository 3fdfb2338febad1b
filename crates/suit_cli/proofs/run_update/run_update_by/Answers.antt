use Rattle.std.proofs.Common.{ap, ◌∙◌}
use Rattle.suit_edge.specs.FlashLaws.{same_flash}
use Rattle.suit_cli.specs.Coming.{ended_of}
use Rattle.suit_cli.specs.Words.{pairs_of}
use Rattle.suit_cli.proofs.UpdateAnswers.{keeps_named, starved_update}
use Rattle.suit_cli.proofs.Settling.{order_start}
use Rattle.suit_cli.proofs.run_update.run_update_by.Goals as goal

pub returns-in-Ok-clause-answer : goal.returns-in-Ok-clause-answer
returns-in-Ok-clause-answer g c = c.run_update.ensures.answer c.args.words.now (c.in-Ok.ensures ∙ ap pairs_of c.as_slice.ensures)

pub returns-in-Ok-clause-keeps : goal.returns-in-Ok-clause-keeps
returns-in-Ok-clause-keeps g c told settled =
    keeps_named c.args.name.now _ _ (c.in-Ok.ensures ∙ ap pairs_of c.as_slice.ensures) _ _ (ended_of c.run_update.result) (c.run_update.ensures.keeps told settled)

pub returns-in-Err-clause-answer : goal.returns-in-Err-clause-answer
returns-in-Err-clause-answer g c = starved_update c.args.name.now c.args.words.now _ _

pub returns-in-Err-clause-keeps : goal.returns-in-Err-clause-keeps
returns-in-Err-clause-keeps g c told settled = same_flash _

pub returns-in-Err-clause-flash : goal.returns-in-Err-clause-flash
returns-in-Err-clause-flash g c told = order_start c.sound_laws.ensures _ _
