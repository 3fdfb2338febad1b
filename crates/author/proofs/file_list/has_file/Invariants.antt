use Rattle.std.proofs.Common.{◌≡◌, drop}
use Rattle.author.specs.Files.{has_file}
use Rattle.author.proofs.file_list.has_file.Given as goal

abbrev pub invariant-loop-other : goal.invariant-loop-other
invariant-loop-other l = has_file l.files l.name ≡ has_file (drop l.other-index l.other-items) l.name
