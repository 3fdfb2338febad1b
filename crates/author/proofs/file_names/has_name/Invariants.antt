use Rattle.std.proofs.Common.{◌≡◌, drop}
use Rattle.author.specs.FileNames.{has_name}
use Rattle.author.proofs.file_names.has_name.Given as goal

abbrev pub invariant-loop-other : goal.invariant-loop-other
invariant-loop-other l = has_name l.names l.name ≡ has_name (drop l.other-index l.other-items) l.name
