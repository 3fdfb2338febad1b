use Rattle.nor_flash.proofs.NorLosses.{nor_loss_law}
use Rattle.nor_flash.proofs.law.nor_loss_laws.Goals as goal

pub returns : goal.returns
returns c = nor_loss_law
