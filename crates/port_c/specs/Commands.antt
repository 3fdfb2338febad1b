-- Commands whose words are in bytes.
use Rattle.port_c.specs.Words.{AreWords}
use Rattle.std.specs.Prelude.{◌≡◌, ℕ, ℤ, List, pos}
use Rattle.suit_cli.specs.Launching.{Launching}
use Rattle.suit_cli.specs.Outside.{Outside, Sunk}
use Rattle.suit_cli.specs.Program.{Runs, World}
use Rattle.suit_edge.specs.Flash.{Flash}
use Rattle.suit_edge.specs.FileDisk.{untold}

abbrev pub world : Outside → Launching → Sunk → Flash → World
world outside launcher sink flash = record {
  outside = outside;
  launcher = launcher;
  sink = sink;
  flash = flash;
}

-- the program was run with the words in the bytes
pub record HasRun (bytes : List ℕ) (before after : World) (status : ℕ) : Type 0 where
  pub words : List (List ℕ)
  pub are_words : AreWords bytes words
  pub runs : Runs words before after status

-- The program was run with the words in the bytes at the other end of the port, and this is its status. What was there
-- before and after is told by counts of faults alone.
pub record HasRunThere (bytes : List ℕ) (result : ℤ) : Type 0 where
  pub outside : Outside
  pub launcher : Launching
  pub sink : Sunk
  pub outside_after : Outside
  pub launcher_after : Launching
  pub sink_after : Sunk
  pub status : ℕ
  pub status_is : result ≡ pos status
  pub has_run :
      HasRun bytes (world outside launcher sink untold)
      (world outside_after launcher_after sink_after untold) status
