use Rattle.flash_layout.proofs.Sharing.{clear_none, shared_some}
use Rattle.flash_layout.proofs.law.slot_laws.Goals as goal

pub returns : goal.returns
returns c = record { clear = clear_none; shared = shared_some }
