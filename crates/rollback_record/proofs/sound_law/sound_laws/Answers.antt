use Rattle.rollback_record.proofs.SettledLaws.{same_sound}
use Rattle.rollback_record.proofs.Sounds as sounds
use Rattle.rollback_record.proofs.StillSound.{still_sound}
use Rattle.rollback_record.proofs.sound_law.sound_laws.Goals as goal

pub returns : goal.returns
returns c = record {
  no_record = sounds.no_record;
  formatted = sounds.formatted;
  committed = sounds.committed;
  follows = sounds.follows;
  kept = still_sound;
  same = same_sound;
  itself = sounds.itself;
  onward = sounds.onward c.config_laws.ensures.answer;
}
