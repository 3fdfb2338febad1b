-- A disk in a file.
use Rattle.std.specs.Prelude.{[]}
use Rattle.suit_edge.specs.Flash.{Flash}

-- nothing is said of what the disk holds
abbrev pub untold : Flash
untold = record { reads = []; clock = 0; may = λ t image. Unit {0} }
