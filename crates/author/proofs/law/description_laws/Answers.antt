use Rattle.author.proofs.DescriptionLawProofs.{laws}
use Rattle.author.proofs.law.description_laws.Goals as goal

pub returns : goal.returns
returns c = laws c.splitting_laws.ensures c.payload_order_laws.ensures
