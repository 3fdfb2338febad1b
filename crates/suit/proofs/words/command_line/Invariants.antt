use Rattle.std.proofs.Common.{take}
use Rattle.std.specs.Prelude.{IsTrue}
use Rattle.suit.specs.CommandLine.{AreHandedOn}
use Rattle.suit.proofs.words.command_line.Given as goal

-- the words so far
abbrev pub invariant-loop-index : goal.invariant-loop-index
invariant-loop-index g l = IsTrue g.S.Source.told → AreHandedOn (take l.index (g.S.Source.words l.source)) l.words
