-- A boot on the disk that views the flash, by a launcher that had noted nothing, is one by what the flash holds.
use Rattle.std.proofs.Common.{◌≡◌, ◌⊎◌, inr, subst, ℕ, List, [], length, None}
use Rattle.boot_c.specs.BootAnswers.{IsAnswer, IsUntold, boot_answer}
use Rattle.flash_layout.specs.Configs.{ConfigOf, Configured}
use Rattle.flash_layout.specs.declared.frame.Frame.{Frame}
use Rattle.flash_layout.specs.declared.key.Key.{Key}
use Rattle.flash_layout.specs.declared.layout.Entry.{Entry}
use Rattle.flash_view.specs.ViewDisk.{ViewState}
use Rattle.invoke_proc.specs.Booting.{Answers, NeverHost, PlayedSo, PlaysBoot}
use Rattle.invoke_proc.specs.declared.boot_end.BootEnd.{BootEnd}
use Rattle.step_machine.specs.Devices.{device_at}
use Rattle.suit_answers.specs.declared.answer.Answer.{Answer}
use Rattle.suit_edge.specs.declared.launch.Launch.{Launch}

module _ (flash : List ℕ) (layout : List Entry) (key : Key) (frame : Frame) (disk : ViewState) (is : disk ≡ record { bytes = flash; faults = 0 }) (held : ConfigOf (length flash) flash (Configured layout key frame)) where
  -- so it was played
  module _ (after : List ℕ) (before : List Launch) (none : before ≡ []) (launches : List Launch) (end : BootEnd) where
    played : PlayedSo (PlaysBoot frame layout key (λ _. None) (device_at disk.bytes before) (device_at after launches)) (after ≡ disk.bytes) before launches end
        → PlayedSo (PlaysBoot frame layout key (λ _. None) (device_at flash []) (device_at after launches)) (after ≡ flash) [] launches end
    played p =
        subst (λ (d : ViewState). PlayedSo (PlaysBoot frame layout key (λ _. None) (device_at d.bytes []) (device_at after launches)) (after ≡ d.bytes) [] launches end) is
        (subst (λ (l : List Launch). PlayedSo (PlaysBoot frame layout key (λ _. None) (device_at disk.bytes l) (device_at after launches)) (after ≡ disk.bytes) l launches end) none p)

    pub ended_so : Answers frame layout key disk.bytes end
        → PlayedSo (PlaysBoot frame layout key (λ _. None) (device_at disk.bytes before) (device_at after launches)) (after ≡ disk.bytes) before launches end
        → NeverHost end → (answer : Answer) → (answer ≡ boot_answer end) ⊎ IsUntold answer end launches → IsAnswer flash answer
    ended_so ended p never answer told = inr (inr (inr (record {
      config = record { layout = layout; key = key; frame = frame; is = held };
      end = end;
      ended = subst (λ (d : ViewState). Answers frame layout key d.bytes end) is ended;
      launches = launches;
      played = record { after = after; plays = played p; never = never };
      told = told;
    })))
