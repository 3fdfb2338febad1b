use Rattle.std.proofs.Common.{◌≡◌, drop}
use Rattle.author.specs.Files.{has_files}
use Rattle.author.proofs.file_list.has_files.Given as goal

abbrev pub invariant-loop-name : goal.invariant-loop-name
invariant-loop-name l = has_files l.files l.names ≡ has_files l.files (drop l.name-index l.name-items)
