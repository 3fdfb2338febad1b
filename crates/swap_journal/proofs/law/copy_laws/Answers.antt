use Rattle.swap_journal.proofs.Copies.{copy_law}
use Rattle.swap_journal.proofs.law.copy_laws.Goals as goal

pub returns : goal.returns
returns c = copy_law
