use Rattle.flash_slots.proofs.Rams as rams
use Rattle.flash_slots.proofs.law.ram_laws.Goals as goal

pub returns : goal.returns
returns c = record { made = rams.made; stays = rams.stays; few = rams.few; room = rams.room; itself = rams.itself; others = rams.others }
