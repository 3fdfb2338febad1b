use Rattle.describe.proofs.DescribedAgain.{made_again, are_there}
use Rattle.describe.proofs.Plain.{no_files, no_float}
use Rattle.describe.proofs.law.describe_laws.Goals as goal

pub returns : goal.returns
returns c = record {
  made_again = made_again c.splitting_laws.ensures.every_item c.envelope_laws.ensures c.sequence_laws.ensures c.manifest_laws.ensures;
  taken = are_there;
  no_float = no_float;
  no_file = no_files;
}
