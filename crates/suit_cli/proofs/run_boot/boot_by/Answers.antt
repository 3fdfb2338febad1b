use Rattle.std.proofs.Common.{refl}
use Rattle.suit_cli.proofs.Sounding.{any_boot}
use Rattle.suit_cli.proofs.Settling.{boots_settled, order_start}
use Rattle.suit_edge.specs.FlashLaws.{same_flash}
use Rattle.suit_cli.proofs.BootKeeping.{reads_left}
use Rattle.suit_cli.proofs.run_boot.boot_by.Goals as goal

pub returns-clause-answer : goal.returns-clause-answer
returns-clause-answer g c = (
  record {
    alone = record { told = refl; files = c.boot-end.ensures.files; flash_told = refl; size = c.boot-end.ensures.size; launcher_told = refl };
    counts = c.boot-end.ensures.counts;
    answers = c.boot-end.ensures.answers;
    unrefused = c.boot-end.ensures.unrefused;
    no_host = c.boot-end.ensures.host;
    left = λ told. reads_left _ _ _ c.boot-end.result (c.boot-end.ensures.keeps told);
    plays = c.boot-end.ensures.plays;
    safe = c.boot-end.ensures.safe;
  },
  c.boot_line-text.ensures,
)

pub returns-in-Err-clause-keeps : goal.returns-in-Err-clause-keeps
returns-in-Err-clause-keeps g c told = same_flash _

pub returns-in-Err-clause-flash : goal.returns-in-Err-clause-flash
returns-in-Err-clause-flash g c told = order_start c.sound_laws.ensures _ _

pub returns-in-Err-new-clause-flash : goal.returns-in-Err-new-clause-flash
returns-in-Err-new-clause-flash g c told = order_start c.sound_laws.ensures _ _

pub returns-clause-flash : goal.returns-clause-flash
returns-clause-flash g c told = record {
  any_moment = any_boot c.args.config.now.2 c.args.config.now.0 c.args.config.now.1 _ _ c.boot-end.result (c.boot-end.ensures.keeps told);
  sound = λ settled. (c.boot-end.ensures.sound told settled, c.boot-end.ensures.follows told settled);
  settled = boots_settled c.boot-end.result _ _ _ _ c.boot-end.ensures.counts (c.boot-end.ensures.settled told);
}
