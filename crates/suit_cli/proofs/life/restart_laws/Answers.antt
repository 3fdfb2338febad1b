use Rattle.rollback_record.proofs.SettledLaws.{settles}
use Rattle.suit_cli.proofs.life.restart_laws.Goals as goal

pub returns : goal.returns
returns g c none sound = settles _ none sound
