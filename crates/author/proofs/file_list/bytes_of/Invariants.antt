use Rattle.std.proofs.Common.{◌≡◌, drop}
use Rattle.author.specs.Files.{bytes_of}
use Rattle.author.proofs.file_list.bytes_of.Given as goal

abbrev pub invariant-loop-other : goal.invariant-loop-other
invariant-loop-other l = bytes_of l.files l.name ≡ bytes_of (drop l.other-index l.other-items) l.name
