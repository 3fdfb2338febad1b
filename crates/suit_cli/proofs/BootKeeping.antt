-- The flash at each moment of a boot.
use Rattle.std.proofs.Common.{◌≡◌, inl, inr, ℕ, List, subst}
use Rattle.suit_edge.specs.Flash.{Flash, IsFlash, IsSame}
use Rattle.suit_edge.specs.FlashLaws.{keeps_same, keeps_then, same_flash_then}
use Rattle.flash_layout.specs.declared.frame.Frame.{Frame}
use Rattle.flash_layout.specs.declared.key.Key.{Key}
use Rattle.flash_layout.specs.declared.layout.Entry.{Entry}
use Rattle.flash_layout.specs.Configs.{ConfigOf, Configured}
use Rattle.invoke_proc.specs.declared.boot_end.BootEnd.{BootEnd}
use Rattle.invoke_proc.specs.declared.boot_end.BootEnd.TheVariants as ends
use Rattle.invoke_proc.specs.Booting.{KeepsBoot, KeptSo, Starts}
use Rattle.suit_cli.specs.Outside.{Outside}
use Rattle.suit_cli.specs.Booting.{KeepsBooted}
use Rattle.suit_cli.specs.Coming.{Answered, Booted, BootKeeps, BootKeepsBy, Ended, Updated}

-- by how it ended
kept_map : (K S L R : Type 0) → (K → L) → (S → R) → (end : BootEnd) → KeptSo K S end → KeptSo L R end
kept_map K S L R k s ends.Ended kept = k kept
kept_map K S L R k s (ends.Condition place) kept = k kept
kept_map K S L R k s (ends.Stopped place cause) kept = k kept
kept_map K S L R k s ends.FlashFault (inl same) = inl (s same)
kept_map K S L R k s ends.FlashFault (inr kept) = inr (k kept)
kept_map K S L R k s _ same = s same

-- so the flash reads as before, where nothing was played
pub reads_left : (Kept : Type 0) (a b : Flash) (end : BootEnd) → KeptSo Kept (IsSame a b) end → KeptSo (Unit {0}) (b.reads ≡ a.reads) end
reads_left Kept a b end kept = kept_map Kept (IsSame a b) (Unit {0}) (b.reads ≡ a.reads) (λ _. tt) (λ same. same.reads) end kept

-- behind a look at the configuration
module _ (before : Outside) (a b c : Flash) (size : ℕ) (law : IsFlash b size) (same : IsSame a b) (layout : List Entry) (key : Key) (frame : Frame)
    (config : ConfigOf before.flash.size a.reads (Configured layout key frame)) where
  boot_since : KeepsBoot frame layout key b c → KeepsBoot frame layout key a c
  boot_since kept = record {
    installed = kept.installed;
    manifest = kept.manifest;
    starts = subst (λ (reads : List ℕ). Starts frame layout key reads kept.installed kept.manifest) same.reads kept.starts;
    others = record {
      standings = kept.others.standings;
      stand = kept.others.stand;
      keeps = keeps_then _ a b c size law (keeps_same _ a b same) kept.others.keeps;
    };
  }

  same_since : IsSame b c → IsSame a c
  same_since still = same_flash_then a b c size law same still

  booted_since : KeepsBoot frame layout key b c → KeepsBooted before a c
  booted_since kept = record { config = (layout, key, frame); held = config; kept = boot_since kept }

  pub boot_keeps : (ended : Ended) → BootKeepsBy (layout, key, frame) ended b c → BootKeeps before ended a c
  boot_keeps (Booted end lines) kept = kept_map _ _ _ _ booted_since same_since end kept
  boot_keeps (Answered ending) still = same_since still
  boot_keeps (Updated end lines) still = same_since still
