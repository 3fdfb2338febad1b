use Rattle.rollback_record.proofs.SettledLaws.{settles}
use Rattle.suit_cli.proofs.LifeLawProofs.{zeros_sound}
use Rattle.suit_cli.proofs.life.new_flash_laws.Goals as goal

pub returns : goal.returns
returns g c none zeros = settles _ none (zeros_sound _ zeros)
