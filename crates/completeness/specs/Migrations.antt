-- The needs of `run migrate`, and how it leaves the outside where they are met.
use Rattle.std.specs.Prelude.{◌≡◌, ℕ, List, Some, codes}
use Rattle.flash_layout.specs.LayoutFaults.{IsBaseHeld}
use Rattle.flash_layout.specs.Roots.{second_frame}
use Rattle.rollback_record.specs.Migrating.{HasFirst, IsMigrated}
use Rattle.suit_cli.specs.Coming.{Ended, ended_status, ended_text}
use Rattle.suit_cli.specs.Launching.{Launching}
use Rattle.suit_cli.specs.Outside.{Outside}
use Rattle.suit_cli.specs.Words.{RunMigrate, task_of}
use Rattle.completeness.specs.Outcomes.{AreTold}

-- The words ask for it; the flash has layout version 1, and the layout may have the base.
pub record ReadyToMigrate (words : List (List ℕ)) (launched : Launching) (before : Outside)
    : Type 0 where
  pub base : ℕ
  pub asks : task_of words ≡ Some (RunMigrate base)
  pub told : AreTold launched before
  pub first : HasFirst before.flash.size before.flash.reads
      (IsBaseHeld (second_frame base) before.flash.size)

-- It is done, and the line says so. The flash has version 2 with the base, and tells what it told.
pub record MigratesWhole (words : List (List ℕ)) (launched : Launching) (before : Outside)
    (ready : ReadyToMigrate words launched before) (now : Launching) (after : Outside)
    (ended : Ended) : Type 0 where
  pub status : ended_status ended ≡ 0
  pub line : ended_text ended ≡ codes "migrated\n"
  pub migrated : IsMigrated ready.base before.flash.reads after.flash.reads
  pub launches : now.launches ≡ launched.launches
  pub files : after.files ≡ before.files
