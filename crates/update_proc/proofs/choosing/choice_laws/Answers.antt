use Rattle.update_proc.proofs.ActiveSlots.{chosen_active}
use Rattle.update_proc.proofs.choosing.choice_laws.Goals as goal

pub returns : goal.returns
returns c = chosen_active
